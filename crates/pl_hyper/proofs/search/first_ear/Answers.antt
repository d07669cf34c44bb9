use Rattle.std.proofs.Common.{arith}
use Rattle.pl_hyper.proofs.Searches.{IsEarAt-parent, none_more}
use Rattle.pl_hyper.proofs.search.first_ear.Goals as goal

pub returns-in-Some-clause-first : goal.returns-in-Some-clause-first
returns-in-Some-clause-first c =
    IsEarAt-parent c.args.edges.now c.args.remaining.now c.args.from c.loop-place.place c.args.shared
    c.in-Some.parent c.requires.shared (omega arith)
    (c.in-Some.ensures.first c.args.edges.now c.args.remaining.now c.requires.holders) c.loop-place.invariant

pub loop-place-preserved : goal.loop-place-preserved
loop-place-preserved c =
    none_more c.args.edges.now c.args.remaining.now c.args.from c.loop-place.place c.args.shared
    c.requires.shared (c.in_default.ensures.none c.args.edges.now c.args.remaining.now c.requires.holders)
    c.loop-place.invariant

pub returns-clause-none : goal.returns-clause-none
returns-clause-none c = λ k f low h. c.loop-place.invariant k f low (omega arith)
