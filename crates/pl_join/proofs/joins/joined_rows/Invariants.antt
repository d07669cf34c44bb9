use Rattle.std.proofs.Common.{◌≡◌, ◌≤◌, length, take}
use Rattle.std.specs.List.{flat_map, concat}
use Rattle.pl_join.specs.Source.{joined_with}
use Rattle.pl_join.proofs.joins.joined_rows.Given as goal

abbrev pub invariant-loop-i : goal.invariant-loop-i
invariant-loop-i g l = record {
  key : length l.key ≡ length l.columns;
  flat : l.flat.items ≡ concat (flat_map (joined_with l.index.table.rows l.columns) (take l.i l.left.rows));
  rise : l.initial.steps ≤ l.steps;
}
