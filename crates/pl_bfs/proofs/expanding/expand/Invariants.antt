use Rattle.std.proofs.Common.{◌+◌, ◌<◌, ◌≤◌, length, All}
use Rattle.pl_task.specs.States.{IsStep}
use Rattle.pl_normal.specs.Measures.{probe_bound}
use Rattle.pl_gen.specs.Walks.{AreAcyclic}
use Rattle.pl_registry.specs.Held.{state_at}
use Rattle.pl_registry.specs.Probes.{KeepsEntries}
use Rattle.pl_registry.specs.Registered.{Register}
use Rattle.pl_bfs.specs.UnderWay.{IsBetween, IsWithin}
use Rattle.pl_bfs.proofs.expanding.expand.Given as goal

-- the search is within the turn of entry n, whatever registry it began with
abbrev pub invariant-loop-step : goal.invariant-loop-step
invariant-loop-step g l =
    record {
      number : l.n < length l.registry.entries;
      steps : All (IsStep l.normal) l.walk.left;
      way : (first : Register) → IsBetween g.F.Fn l.normal l.pruner.cut first l.initial.registry l.n
          l.initial.generated
          → IsWithin g.F.Fn l.normal l.pruner.cut first l.registry l.n l.walk.left l.generated;
      kept : KeepsEntries l.initial.registry l.registry;
      cost : AreAcyclic l.normal →
          l.steps + l.walk.reads ≤ l.fn.steps + probe_bound l.normal
          (state_at l.normal l.initial.registry l.n);
      rise : l.fn.steps ≤ l.steps;
    }

abbrev pub decreases-loop-step : goal.decreases-loop-step
decreases-loop-step g l = length l.walk.left
