use Rattle.std.proofs.Common.{arith, sym, ◌∙◌, ap, map, filter}
use Rattle.std.proofs.lemmas.List.{take_all, length-map}
use Rattle.pl_join.specs.Source.{picked, passes_all}
use Rattle.pl_join.proofs.Loops.{whole_more, kept_mapped_more, left_out, same_along}
use Rattle.pl_join.proofs.selection.passing_rows.Goals as goal
use Rattle.pl_join.proofs.selection.passing_rows.Goals.{then-passes+in_ok-append_picked, else-passes}

pub loop-i-preserved : goal.loop-i-preserved
loop-i-preserved g c = elim c.if-passes.branch [
  | then-passes+in_ok-append_picked w ↦ record {
    few = omega arith;
    whole = rw (w.flat-is, w.in_ok-append_picked.ensures.items, w.count-is)
        (whole_more _ _ _ _ c.loop-i.invariant.whole (length-map c.args.columns.now _));
    rows = rw (w.flat-is, w.in_ok-append_picked.ensures.items, w.count-is)
        (kept_mapped_more (picked c.args.columns.now) (passes_all c.args.tests.now) _ _ _ _ _ _
        c.row-row.ensures.row c.loop-i.invariant.whole (length-map c.args.columns.now _)
        (sym c.passes.ensures ∙ w.if-passes.true) c.loop-i.invariant.rows);
    cost = omega arith;
  }
  | else-passes w ↦ record {
    few = omega arith;
    whole = rw (w.flat-is, w.count-is) c.loop-i.invariant.whole;
    rows = rw (w.flat-is, w.count-is)
        (c.loop-i.invariant.rows ∙ ap (map (picked c.args.columns.now))
        (sym (left_out (passes_all c.args.tests.now) _ _ _ c.row-row.ensures.row
        (sym c.passes.ensures ∙ w.if-passes.false))));
    cost = omega arith;
  }
]

pub returns-clause-same : goal.returns-clause-same
returns-clause-same g c =
    let all = take_all c.loop-i.i c.args.table.now.rows (omega (arith, c.len-len.ensures.len)) in
    same_along _ _ _
    (c.loop-i.invariant.rows
    ∙ ap (λ rows. map (picked c.args.columns.now) (filter (passes_all c.args.tests.now) rows)) all)
    c.from_rows.ensures.same
