use Rattle.std.proofs.Common.{◌≡◌, ◌+◌, ◌*◌, take}
use Rattle.pl_join.specs.Found.{AreFound}
use Rattle.pl_join.proofs.found.find_ranges.Given as goal

abbrev pub invariant-loop-i : goal.invariant-loop-i
invariant-loop-i g l = record {
  found : AreFound l.indexed.table.rows (take l.i l.keys.rows) l.ranges.items;
  cost : l.steps ≡ l.initial.steps + 2 * l.i;
}
