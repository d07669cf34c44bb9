use Rattle.pl_make.specs.Texts.{IsSize}
use Rattle.std.proofs.Common.{subst}
use Rattle.pl_make.proofs.Lengths.{hop_problem-short, wide_problem-short}
use Rattle.pl_make.proofs.making.make.Goals as goal

pub returns-in_ok-problem-in-Hop-clause-short_problem : goal.returns-in_ok-problem-in-Hop-clause-short_problem
returns-in_ok-problem-in-Hop-clause-short_problem c =
    let size = subst (λ k. IsSize k c.args.n) c.in-Hop.is c.requires in
    rw (c.of-in-Hop.ensures, c.in_ok-problem-in-Hop.ensures.text)
    (hop_problem-short c.args.n c.args.start size.0 size.1)

pub returns-in_ok-problem-in-Wide-clause-short_problem :
    goal.returns-in_ok-problem-in-Wide-clause-short_problem
returns-in_ok-problem-in-Wide-clause-short_problem c =
    let size = subst (λ k. IsSize k c.args.n) c.in-Wide.is c.requires in
    rw (c.of-in-Wide-2.ensures, c.in_ok-problem-in-Wide.ensures.text) (wide_problem-short c.args.n size.1)
