use Rattle.std.proofs.Common.{◌∙◌}
use Rattle.pl_normal.proofs.Loops.{local_more, late_more, filters_none}
use Rattle.pl_normal.proofs.filters.filters.Goals as goal

pub loop-literal-init : goal.loop-literal-init
loop-literal-init c = filters_none c.args.edges.now c.args.slots.now _ _ c.new-2.ensures.items
    c.new-3.ensures.items

pub loop-literal-preserved : goal.loop-literal-preserved
loop-literal-preserved c = (
  local_more c.args.edges.now c.args.slots.now c.args.condition.now c.loop-literal.literal-index
      c.literal-item.result _ _ c.loop-literal-test.true c.literal-item.is c.loop-literal.invariant.0
      (c.in_ok-add_filter.ensures.local c.args.edges.now
      (c.in_ok-finder.ensures ∙ (c.as_slice.ensures.value ∙ c.in_ok-sets.ensures))),
  late_more c.args.edges.now c.args.slots.now c.args.condition.now c.loop-literal.literal-index
      c.literal-item.result _ _ c.loop-literal-test.true c.literal-item.is c.loop-literal.invariant.1
      (c.in_ok-add_filter.ensures.late c.args.edges.now
      (c.in_ok-finder.ensures ∙ (c.as_slice.ensures.value ∙ c.in_ok-sets.ensures))),
)
