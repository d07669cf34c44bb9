use Rattle.std.proofs.Common.{arith, sym, ◌∙◌}
use Rattle.pl_join.specs.Source.{differ}
use Rattle.pl_join.proofs.Loops.{whole_more, kept_more, left_out, same_along, kept_all, differs}
use Rattle.pl_join.proofs.Loops.{no_difference}
use Rattle.pl_join.proofs.filters.unequal_rows.Goals as goal
use Rattle.pl_join.proofs.filters.unequal_rows.Goals.{then-value_in+in_ok-append, else-value_in}

pub loop-i-preserved : goal.loop-i-preserved
loop-i-preserved g c = elim c.if-value_in.branch [
  | then-value_in+in_ok-append w ↦ record {
    few = omega arith;
    whole = rw (w.flat-is, w.in_ok-append.ensures.items, w.count-is)
        (whole_more _ _ _ _ c.loop-i.invariant.whole c.row-row.ensures.width);
    rows = rw (w.flat-is, w.in_ok-append.ensures.items, w.count-is)
        (kept_more (differ c.args.a c.args.b) _ _ _ _ _ _ c.row-row.ensures.row c.loop-i.invariant.whole
        c.row-row.ensures.width
        (differs c.args.a c.args.b c.row-row.result.now _ _ c.value_in.ensures
        c.value_in-in-loop-i.ensures w.if-value_in.true) c.loop-i.invariant.rows);
    cost = omega arith;
  }
  | else-value_in w ↦ record {
    few = omega arith;
    whole = rw (w.flat-is, w.count-is) c.loop-i.invariant.whole;
    rows = rw (w.flat-is, w.count-is)
        (c.loop-i.invariant.rows
        ∙ sym (left_out (differ c.args.a c.args.b) _ _ _ c.row-row.ensures.row
        (no_difference c.args.a c.args.b c.row-row.result.now _ _ c.value_in.ensures
        c.value_in-in-loop-i.ensures w.if-value_in.false)));
    cost = omega arith;
  }
]

pub returns-clause-same : goal.returns-clause-same
returns-clause-same g c =
    same_along _ _ _ (kept_all (differ c.args.a c.args.b) _ _ _ _ _ _ c.arity-2.ensures
    (omega (arith, c.len-len.ensures.len)) c.loop-i.invariant.rows) c.from_rows.ensures.same
