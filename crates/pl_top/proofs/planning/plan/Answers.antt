use Rattle.std.proofs.Common.{refl}
use Rattle.pl_top.specs.Answer.{IsSearchOutcome}
use Rattle.pl_top.specs.Asked.{plan_options_named}
use Rattle.pl_top.proofs.FinishLemmas.{finished_run}
use Rattle.pl_top.proofs.RunLemmas.{refused_run}
use Rattle.pl_top.proofs.WorkLemmas.{plan_within, refused_no_search}
use Rattle.pl_top.proofs.planning.plan.Goals as goal

pub returns-in-Ok-clause-ends : goal.returns-in-Ok-clause-ends
returns-in-Ok-clause-ends g c =
    finished_run _ _ _ _ _ _ _ _ 2 (IsSearchOutcome c.in-Ok.task (plan_options_named c.args.options))
    c.in-Ok.ensures.begun c.in-Ok.ensures.task c.solve.ensures.ends

pub returns-in-Err-clause-ends : goal.returns-in-Err-clause-ends
returns-in-Err-clause-ends g c =
    rw c.refuse.ensures.status
    (refused_run _ _ _ _ _ _ _ _ c.in-Err.ensures.refused refl c.refuse.ensures.line)

pub returns-in-Ok-clause-work : goal.returns-in-Ok-clause-work
returns-in-Ok-clause-work g c = λ says.
    plan_within c.args.domain.now c.args.problem.now (plan_options_named c.args.options) _ _ _ _ c.in-Ok.task
    c.in-Ok.ensures.read
    (c.solve.ensures.work says)

pub returns-in-Err-clause-work : goal.returns-in-Err-clause-work
returns-in-Err-clause-work g c = λ says.
    absurd (refused_no_search c.in-Err.refusal _ c.refuse.ensures.status says)
