use Rattle.std.proofs.Common.{refl}
use Rattle.pl_top.proofs.MadeRunLemmas.{made_run, unmade_run}
use Rattle.pl_top.proofs.WorkLemmas.{made_within, refused_nothing}
use Rattle.pl_top.proofs.making.make.Goals as goal

pub returns-in-Ok-clause-ends : goal.returns-in-Ok-clause-ends
returns-in-Ok-clause-ends g c shelf =
    made_run c.args.kind c.args.n c.args.start shelf _ _ _ _ _ c.in-Ok.task c.in-Ok.ensures.task
    c.solve.ensures.ends

pub returns-in-Err-clause-ends : goal.returns-in-Err-clause-ends
returns-in-Err-clause-ends g c shelf =
    unmade_run c.args.kind c.args.n c.args.start shelf _ _ _ _ _ c.in-Err.refusal c.in-Err.ensures.refused
    c.refuse.ensures.status refl
    c.refuse.ensures.line

pub returns-in-Ok-clause-work : goal.returns-in-Ok-clause-work
returns-in-Ok-clause-work g c = λ says.
    made_within c.args.kind c.args.n c.args.start _ _ c.in-Ok.task c.in-Ok.ensures.task
    (c.solve.ensures.work says)

pub returns-in-Err-clause-work : goal.returns-in-Err-clause-work
returns-in-Err-clause-work g c = λ says.
    absurd (refused_nothing c.in-Err.refusal _ c.refuse.ensures.status says)
