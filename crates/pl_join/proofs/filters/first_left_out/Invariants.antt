use Rattle.std.proofs.Common.{◌≡◌, ◌+◌, ◌*◌, length, filter, take}
use Rattle.pl_join.specs.Lookup.{keys_of}
use Rattle.pl_join.specs.Source.{is_kept}
use Rattle.pl_join.proofs.filters.first_left_out.Given as goal

abbrev pub invariant-loop-i : goal.invariant-loop-i
invariant-loop-i g l = record {
  values : length l.values ≡ length l.sources;
  kept : filter (is_kept l.keep (keys_of l.other) l.sources) (take l.i l.table.rows) ≡ take l.i l.table.rows;
  cost : l.steps ≡ l.initial.steps + 2 * l.i;
}
