use Rattle.std.proofs.Common.{◌≤◌, ◌-◌}
use Rattle.std.specs.BinaryHeap.{heap_items}
use Rattle.pl_greedy.specs.UnderWay.{IsInBounds}
use Rattle.pl_greedy.proofs.searching.greedy.Given as goal

-- so many entries were expanded, and all their steps tried, within their bounds
abbrev pub invariant-loop-first : goal.invariant-loop-first
invariant-loop-first g l =
    record {
      way : IsInBounds g.G.Fn l.normal l.pruner.cut l.initial.registry l.registry
          (heap_items l.waiting) l.expanded l.generated l.fn.steps l.steps;
      rise : l.fn.steps ≤ l.steps;
    }

abbrev pub decreases-loop-first : goal.decreases-loop-first
decreases-loop-first g l = l.registry.limit - l.expanded
