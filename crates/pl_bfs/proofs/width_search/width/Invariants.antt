use Rattle.std.proofs.Common.{◌+◌, ◌≤◌, ◌-◌}
use Rattle.pl_gen.specs.Walks.{AreAcyclic}
use Rattle.pl_bfs.specs.UnderWay.{turns_bound}
use Rattle.pl_bfs.specs.Sifting.{IsSiftedBetween}
use Rattle.pl_bfs.proofs.width_search.width.Given as goal

-- n entries were expanded, and all their steps tried
abbrev pub invariant-loop-n : goal.invariant-loop-n
invariant-loop-n g l =
    record {
      way : IsSiftedBetween l.normal l.k l.initial.registry l.registry l.n l.generated l.sieve;
      cost : AreAcyclic l.normal → l.steps ≤ l.fn.steps + turns_bound l.normal l.registry l.n;
      rise : l.fn.steps ≤ l.steps;
    }

abbrev pub decreases-loop-n : goal.decreases-loop-n
decreases-loop-n g l = l.registry.limit - l.n
