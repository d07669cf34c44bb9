-- The plan that a search finds is the least one, as its pruner says yes only where no goal state is
-- reachable.
use Rattle.std.proofs.Common.{ℕ, Bool, List, Bor, subst}
use denote.Param.Members.{Shared}
use Rattle.pl_task.specs.declared.task.Task.{Task}
use Rattle.pl_task.specs.States.{State}
use Rattle.pl_registry.specs.Cut.{ReachesNoGoal}
use Rattle.pl_registry.specs.Ending.{IsEnding, by_number, ending_of}
use Rattle.pl_registry.specs.Registered.{Register}
use Rattle.pl_registry.specs.SearchRecord.{SearchRecord}
use Rattle.pl_registry.specs.StateSpace.{space_of}
use Rattle.pl_registry.specs.declared.ended.Ended.{Ended}
use Rattle.pl_registry.specs.declared.ended.Outcome.{Outcome}
use Rattle.pl_registry.specs.declared.ended.Outcome.TheVariants as outcome
use Rattle.pl_registry.specs.declared.ended.Stats.{Stats}
use Rattle.pl_registry.proofs.Endings.{found_is_least}
use Rattle.pl_hooks.specs.Sound.{IsSoundCut}
use Rattle.pl_bfs.specs.Breadth.{MayDrop, MayKeep, IsBreadth, IsLeastIfFound}

module _ {F : Type 0} (calls : Shared F (Bor (List ℕ) × Unit {0}) Bool) (task : Task) (cut : F)
    (sound : IsSoundCut calls task cut) where
  -- from what may be dropped no goal state is reachable
  drops_no_goal : (s : State) → MayDrop calls task cut s → ReachesNoGoal task s
  drops_no_goal s (words, is, same, says) = subst (ReachesNoGoal task) same (sound.sound words is says)

  least_so : (limit : ℕ) (r : SearchRecord) (end : Outcome) (stats : Stats) →
      IsEnding (space_of task) (MayDrop calls task cut) (MayKeep calls task cut) by_number limit r
      (ending_of end) stats → IsLeastIfFound task end
  least_so limit r (outcome.Found plan) stats ending =
      found_is_least task (MayDrop calls task cut)
      (MayKeep calls task cut) limit r plan stats drops_no_goal ending
  least_so limit r outcome.Unsolvable stats ending = tt
  least_so limit r outcome.Limit stats ending = tt

  pub least_ended : (old new : Register) (ended : Ended) → IsBreadth calls task cut old new ended →
      IsLeastIfFound task ended.outcome
  least_ended old new ended h = least_so old.limit h.of ended.outcome ended.stats h.ending
