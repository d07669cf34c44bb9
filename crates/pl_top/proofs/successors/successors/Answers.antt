use Rattle.std.proofs.Common.{refl}
use Rattle.pl_top.specs.Starting.{IsWorkedAt}
use Rattle.pl_top.proofs.FinishLemmas.{finished_run}
use Rattle.pl_top.proofs.RunLemmas.{refused_run}
use Rattle.pl_top.specs.Asked.{options_named}
use Rattle.pl_top.proofs.WorkLemmas.{list_within, refused_no_list}
use Rattle.pl_top.proofs.successors.successors.Goals as goal

pub returns-in-Ok-clause-ends : goal.returns-in-Ok-clause-ends
returns-in-Ok-clause-ends g c =
    finished_run _ _ _ _ _ _ _ _ 3 (IsWorkedAt c.in-Ok.start) c.in-Ok.ensures.begun c.in-Ok.ensures.start
    c.finish.ensures.ends

pub returns-in-Err-clause-ends : goal.returns-in-Err-clause-ends
returns-in-Err-clause-ends g c =
    rw c.refuse.ensures.status
    (refused_run _ _ _ _ _ _ _ _ c.in-Err.ensures.refused refl c.refuse.ensures.line)

pub returns-in-Ok-clause-work : goal.returns-in-Ok-clause-work
returns-in-Ok-clause-work g c = λ zero.
    list_within c.args.domain.now c.args.problem.now (options_named c.args.options) _ _ _ _ c.in-Ok.start
    c.in-Ok.ensures.read
    c.in-Ok.ensures.page (c.finish.ensures.work zero)

pub returns-in-Err-clause-work : goal.returns-in-Err-clause-work
returns-in-Err-clause-work g c = λ zero.
    absurd (refused_no_list c.in-Err.refusal _ c.refuse.ensures.status zero)
