use Rattle.std.proofs.Common.{◌≡◌, ◌≤◌, ◌-◌, ◌++◌, length, max, replicate, vec_len}
use Rattle.pl_rows.proofs.indexed.extend.Given as goal

abbrev pub invariant-loop-starts : goal.invariant-loop-starts
invariant-loop-starts l = record {
  grows : length l.fn.starts.items ≤ length l.starts.items;
  room : length l.starts.items ≤ max l.len (length l.fn.starts.items);
  items : l.starts.items ≡ l.fn.starts.items ++ replicate (length l.starts.items - length l.fn.starts.items)
      l.value;
}

abbrev pub decreases-loop-starts : goal.decreases-loop-starts
decreases-loop-starts l = l.len - vec_len l.starts
