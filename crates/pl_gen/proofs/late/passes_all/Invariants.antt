use Rattle.std.proofs.Common.{◌≡◌, ◌≤◌, ◌+◌, drop}
use Rattle.std.specs.Prelude.{slice_index}
use Rattle.std.specs.List.{list_all}
use Rattle.pl_normal.specs.Query.{meets_sieve}
use Rattle.pl_gen.specs.Queries.{state_asked}
use Rattle.pl_gen.proofs.late.passes_all.Given as goal

abbrev pub invariant-loop-sieve : goal.invariant-loop-sieve
invariant-loop-sieve g l =
    (list_all (meets_sieve (state_asked l.query) (slice_index l.values)) l.sieves ≡ list_all
    (meets_sieve (state_asked l.query) (slice_index l.values)) (drop l.sieve-index l.sieves))
    × (l.steps ≤ l.initial.steps + l.sieve-index)
    × (l.initial.steps ≤ l.steps)
