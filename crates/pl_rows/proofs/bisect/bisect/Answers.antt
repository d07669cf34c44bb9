use Rattle.std.proofs.Common.{arith, sym}
use Rattle.pl_rows.specs.Layout.{takes_equal}
use Rattle.pl_rows.proofs.Narrowing.{narrowed_up, narrowed_down, narrowed_end}
use Rattle.pl_rows.proofs.bisect.bisect.Goals as goal

pub loop-low-init : goal.loop-low-init
loop-low-init c = record {
  within = c.requires.within;
  in_order = c.requires.in_order;
  from = omega arith;
  to = omega arith;
  narrowed = c.requires.narrowed;
}

pub loop-low-preserved-then-is_before : goal.loop-low-preserved-then-is_before
loop-low-preserved-then-is_before c = record {
  within = omega arith;
  in_order = omega arith;
  from = omega arith;
  to = omega arith;
  narrowed = narrowed_up (takes_equal c.args.bound) c.args.prefix.now _ _ _ _ _ c.requires.ascending
      c.row_at.ensures.row (sym c.if-is_before.ensures) c.loop-low.invariant.narrowed;
}

pub loop-low-preserved : goal.loop-low-preserved
loop-low-preserved c = record {
  within = omega arith;
  in_order = omega arith;
  from = omega arith;
  to = omega arith;
  narrowed = narrowed_down (takes_equal c.args.bound) c.args.prefix.now _ _ _ _ _ c.requires.ascending
      c.row_at.ensures.row (sym c.if-is_before.ensures) c.loop-low.invariant.narrowed;
}

pub returns-clause-narrowed : goal.returns-clause-narrowed
returns-clause-narrowed c =
    narrowed_end _ _ _ _ c.loop-low.invariant.in_order (omega arith) c.loop-low.invariant.narrowed
