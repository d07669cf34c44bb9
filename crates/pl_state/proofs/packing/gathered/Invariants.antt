use Rattle.std.proofs.Common.{◌≡◌, ◌*◌, ◌≤◌, length, take}
use Rattle.pl_rows.specs.Rows.{rows_of}
use Rattle.pl_state.proofs.Packings.{rows_among}
use Rattle.pl_state.proofs.packing.gathered.Given as goal

abbrev pub invariant-loop-atom : goal.invariant-loop-atom
invariant-loop-atom l = record {
  few : l.count ≤ l.atom-index;
  whole : length l.flat.items ≡ l._arity * l.count;
  rows : rows_of l._arity l.count l.flat.items ≡ rows_among l.predicate (take l.atom-index l.atoms);
}
