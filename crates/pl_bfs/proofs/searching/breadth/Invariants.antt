use Rattle.std.proofs.Common.{◌+◌, ◌≤◌, ◌-◌}
use Rattle.pl_gen.specs.Walks.{AreAcyclic}
use Rattle.pl_bfs.specs.UnderWay.{IsBetween, turns_bound}
use Rattle.pl_bfs.proofs.searching.breadth.Given as goal

-- n entries were expanded, and all their steps tried
abbrev pub invariant-loop-n : goal.invariant-loop-n
invariant-loop-n g l =
    record {
      way : IsBetween g.F.Fn l.normal l.pruner.cut l.initial.registry l.registry l.n l.generated;
      cost : AreAcyclic l.normal → l.steps ≤ l.fn.steps + turns_bound l.normal l.registry l.n;
      rise : l.fn.steps ≤ l.steps;
    }

abbrev pub decreases-loop-n : goal.decreases-loop-n
decreases-loop-n g l = l.registry.limit - l.n
