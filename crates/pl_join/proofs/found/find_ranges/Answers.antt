use Rattle.std.proofs.Common.{[], arith}
use Rattle.std.proofs.lemmas.Option.{slice_get_within, get_or_from_slice_get}
use Rattle.pl_join.proofs.Founds.{found_more}
use Rattle.pl_join.proofs.found.find_ranges.Goals as goal

pub loop-i-preserved : goal.loop-i-preserved
loop-i-preserved g c = record {
  found = rw c.in_ok-push.ensures.items
      (found_more c.args.indexed.now.table.rows c.args.keys.now.rows c.loop-i.ranges.items c.loop-i.i
      c.row-key.result.now [] c.find.result
      (slice_get_within c.args.keys.now.rows c.loop-i.i c.row-key.result.now c.row-key.ensures.row)
      (get_or_from_slice_get c.args.keys.now.rows c.loop-i.i c.row-key.result.now [] c.row-key.ensures.row)
      c.loop-i.invariant.found c.find.ensures.rows c.find.ensures.all);
  cost = omega (arith, c.row-key.ensures.cost, c.find.ensures.cost, c.loop-i.invariant.cost);
}
