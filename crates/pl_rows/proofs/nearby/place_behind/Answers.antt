use Rattle.std.proofs.Common.{false, sym, arith}
use Rattle.pl_rows.proofs.Narrowing.{narrowed_up, narrowed_down}
use Rattle.pl_rows.proofs.nearby.place_behind.Goals as goal

pub bisect-requires-clause-narrowed : goal.bisect-requires-clause-narrowed
bisect-requires-clause-narrowed c =
    narrowed_up false c.args.row.now _ _ _ _ _ c.requires.ascending c.row_at.ensures.row
    (sym c.if-is_before.ensures) c.loop-stride.invariant.narrowed

pub loop-stride-preserved : goal.loop-stride-preserved
loop-stride-preserved c = record {
  small = omega arith;
  narrowed = narrowed_down false c.args.row.now _ _ _ _ _ c.requires.ascending c.row_at.ensures.row
      (sym c.if-is_before.ensures) c.loop-stride.invariant.narrowed;
}
