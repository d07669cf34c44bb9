use Rattle.std.proofs.Common.{◌∙◌, sym, arith}
use Rattle.pl_names.specs.Entries.{is_below}
use Rattle.pl_names.proofs.Order.{narrowed_up, narrowed_down, narrowed_end, below_down}
use Rattle.pl_names.proofs.entries.bisect.Goals as goal

pub loop-low-preserved-then-is_below : goal.loop-low-preserved-then-is_below
loop-low-preserved-then-is_below c = record {
  within = omega arith;
  in_order = omega arith;
  from = omega arith;
  to = omega arith;
  narrowed = narrowed_up (is_below c.args.key c.args.name.now) (below_down c.args.key c.args.name.now)
      c.args.entries.now c.loop-low.low c.loop-low.high _ c.requires.ordered (omega arith)
      (sym c.is_below.ensures ∙ c.if-is_below.true) c.loop-low.invariant.narrowed;
}

pub loop-low-preserved : goal.loop-low-preserved
loop-low-preserved c = record {
  within = omega arith;
  in_order = omega arith;
  from = omega arith;
  to = omega arith;
  narrowed = narrowed_down (is_below c.args.key c.args.name.now) (below_down c.args.key c.args.name.now)
      c.args.entries.now c.loop-low.low c.loop-low.high _ c.requires.ordered (sym c.is_below.ensures ∙
      c.if-is_below.false) c.loop-low.invariant.narrowed;
}

pub returns-clause-narrowed : goal.returns-clause-narrowed
returns-clause-narrowed c =
    narrowed_end (is_below c.args.key c.args.name.now) c.args.entries.now c.loop-low.low c.loop-low.high
    c.loop-low.invariant.in_order (omega arith) c.loop-low.invariant.narrowed
