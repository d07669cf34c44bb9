use Rattle.std.proofs.Common.{length, map, arith, refl, subst}
use Rattle.std.proofs.lemmas.List.{take_all}
use Rattle.pl_rows.specs.Rows.{SameRows, rows_of}
use Rattle.pl_join.specs.Source.{picked}
use Rattle.pl_join.proofs.Repeats.{same_more, same_made}
use Rattle.pl_join.proofs.projection.picked_rows.Goals as goal

pub loop-i-preserved : goal.loop-i-preserved
loop-i-preserved g c = record {
  few = omega (arith, c.in_ok-count.ensures.most, c.loop-i.invariant.few);
  whole = c.in_ok-count.ensures.whole;
  rows = same_more (picked c.args.columns.now) c.loop-i.i c.args.table.now.rows _ _ _ _
      c.row-row.ensures.row refl c.loop-i.invariant.rows c.in_ok-count.ensures.rows;
  cost = omega arith;
}

pub returns-clause-same : goal.returns-clause-same
returns-clause-same g c =
    let all = take_all c.loop-i.i c.args.table.now.rows (omega (arith, c.len-len.ensures.len)) in
    same_made _ _ _
    (subst (λ rows. SameRows (rows_of (length c.args.columns.now) c.loop-i.count c.loop-i.flat.items)
    (map (picked c.args.columns.now) rows)) all c.loop-i.invariant.rows)
    c.from_rows.ensures.same
