use Rattle.std.proofs.Common.{◌≡◌, ◌≤◌, ◌+◌, drop}
use Rattle.std.specs.List.{list_all}
use Rattle.pl_normal.specs.Query.{meets_guard}
use Rattle.pl_gen.specs.Queries.{state_asked}
use Rattle.pl_gen.proofs.guards.guards_hold.Given as goal

abbrev pub invariant-loop-guard : goal.invariant-loop-guard
invariant-loop-guard g l =
    (list_all (meets_guard (state_asked l.query)) l.guards ≡ list_all (meets_guard (state_asked l.query))
    (drop l.guard-index l.guards))
    × (l.steps ≤ l.initial.steps + l.guard-index)
    × (l.initial.steps ≤ l.steps)
