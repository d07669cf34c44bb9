use Rattle.pl_top.specs.Asked.{kind_named}
use Rattle.pl_top.specs.Ended.{ending_in}
use Rattle.pl_top.proofs.PlanLemmas.{steps_of, solved}
use Rattle.pl_top.proofs.WorkLemmas.{search_asked, memory_no_search}
use Rattle.pl_top.proofs.planning.solve.Goals as goal

pub print_ended-requires : goal.print_ended-requires
print_ended-requires g c =
    steps_of c.args.task.now (kind_named c.kind_of-kind.result) c.limit_of-limit.result
    (ending_in c.in-Ok.end.outcome) c.in-Ok.end.stats
    c.in-Ok.ensures.ended.0

pub returns-in-Ok-clause-ends : goal.returns-in-Ok-clause-ends
returns-in-Ok-clause-ends g c =
    solved c.args.task.now c.args.options (kind_named c.kind_of-kind.result) c.limit_of-limit.result
    (ending_in c.in-Ok.end.outcome)
    c.in-Ok.end.stats _ _ _ _ _ c.kind_of-kind.ensures c.limit_of-limit.ensures
    c.in-Ok.ensures.ended.0
    c.print_ended.ensures

pub returns-in-Ok-clause-work : goal.returns-in-Ok-clause-work
returns-in-Ok-clause-work g c = λ says.
    search_asked c.args.task.now c.args.options (kind_named c.kind_of-kind.result) c.limit_of-limit.result _ _
    c.kind_of-kind.ensures
    c.limit_of-limit.ensures c.in-Ok.ensures.ended.1

pub returns-in-Err-clause-work : goal.returns-in-Err-clause-work
returns-in-Err-clause-work g c = λ says. absurd (memory_no_search _ c.refuse.ensures.status says)
