use Rattle.std.proofs.Common.{ap, arith}
use Rattle.pl_registry.specs.declared.search.Search.TheVariants as search
use Rattle.pl_registry.specs.Ending.{ending_of}
use Rattle.pl_registry.specs.Ending.Ending.{Found, Unsolvable, Limit}
use Rattle.pl_top.proofs.MakingLemmas.{ended_so, few_found, found_made, unsolvable_made, limited_made}
use Rattle.pl_top.proofs.PlanLemmas.{steps_of}
use Rattle.pl_top.proofs.making.conclude.Goals as goal

pub sum_up-requires-clause-few : goal.sum_up-requires-clause-few
sum_up-requires-clause-few g c =
    omega (
      arith,
      few_found c.args.task.now 1000000 c.in-Found.plan c.args.ended.now.stats
          (ended_so c.args.task.now c.args.ended.now.outcome (Found c.in-Found.plan) c.args.ended.now.stats
          (ap ending_of c.in-Found.is) c.requires),
    )

pub sum_up-requires-clause-steps : goal.sum_up-requires-clause-steps
sum_up-requires-clause-steps g c =
    steps_of c.args.task.now search.Bfs 1000000 (Found c.in-Found.plan) c.args.ended.now.stats
    (ended_so c.args.task.now c.args.ended.now.outcome (Found c.in-Found.plan) c.args.ended.now.stats
    (ap ending_of c.in-Found.is) c.requires)

pub returns-in-Found : goal.returns-in-Found
returns-in-Found g c =
    found_made c.args.task.now c.in-Found.plan c.args.ended.now.stats _ _ _ _ _
    (ended_so c.args.task.now c.args.ended.now.outcome (Found c.in-Found.plan) c.args.ended.now.stats
    (ap ending_of c.in-Found.is) c.requires)
    c.sum_up.ensures

pub returns-in-Unsolvable : goal.returns-in-Unsolvable
returns-in-Unsolvable g c =
    unsolvable_made c.args.task.now c.args.ended.now.stats _ _ _ _ _
    (ended_so c.args.task.now c.args.ended.now.outcome Unsolvable c.args.ended.now.stats
    (ap ending_of c.in-Unsolvable.is) c.requires)
    c.print_ended.ensures

pub returns-in-Limit : goal.returns-in-Limit
returns-in-Limit g c =
    limited_made c.args.task.now c.args.ended.now.stats _ _ _ _ _
    (ended_so c.args.task.now c.args.ended.now.outcome Limit c.args.ended.now.stats
    (ap ending_of c.in-Limit.is) c.requires)
    c.print_ended-in-Limit.ensures
