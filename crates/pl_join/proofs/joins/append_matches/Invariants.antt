use Rattle.std.proofs.Common.{◌≡◌, ◌≤◌, ◌++◌, map, slice_range}
use Rattle.std.specs.List.{concat}
use Rattle.pl_join.specs.Source.{glued}
use Rattle.pl_join.proofs.joins.append_matches.Given as goal

abbrev pub invariant-loop-place : goal.invariant-loop-place
invariant-loop-place g l = record {
  matches : l.flat.items ≡ l.initial.flat.items
      ++ concat (map (glued l.width l.row) (slice_range l.table.rows l.fn.range.from l.place));
  rise : l.initial.steps ≤ l.steps;
}
