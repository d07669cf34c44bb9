use Rattle.std.proofs.Common.{◌≡◌, ◌<◌, ℕ, length}
use Rattle.std.specs.Prelude.{slice_index}
use Rattle.pl_normal.specs.Kinds.{lists_of, AreKnown, IsNumberOf}
use Rattle.pl_normal.proofs.numbering.number_lists.Given as goal

abbrev pub invariant-loop-i : goal.invariant-loop-i
invariant-loop-i l = record {
  known : AreKnown (lists_of l.lists) l.known l.firsts.items;
  many : length l.numbers.items ≡ l.i;
  each : (k : ℕ) → k < l.i → IsNumberOf (lists_of l.lists) l.firsts.items k (slice_index l.numbers.items k);
}
