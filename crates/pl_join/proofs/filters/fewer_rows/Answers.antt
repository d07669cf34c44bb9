use Rattle.std.proofs.Common.{filter, ap, arith, sym, subst, ◌∙◌}
use Rattle.std.proofs.lemmas.List.{take_all, length_push}
use Rattle.pl_rows.specs.Rows.{Rows, AreRows, IsAscending}
use Rattle.pl_join.specs.Lookup.{keys_of}
use Rattle.pl_join.specs.Source.{is_kept}
use Rattle.pl_join.proofs.Loops.{row_kept, left_out, fewer_kept, are_rows-filter}
use Rattle.pl_join.proofs.filters.fewer_rows.Goals as goal
use Rattle.pl_join.proofs.filters.fewer_rows.Goals.{then-keeps+in_ok-push, else-keeps}

pub loop-i-preserved : goal.loop-i-preserved
loop-i-preserved g c = elim c.if-keeps.branch [
  | then-keeps+in_ok-push w ↦ record {
    values = c.keeps.auto.values ∙ c.loop-i.invariant.values;
    few = rw (w.kept-is, w.in_ok-push.ensures.rows)
        (omega (arith, length_push c.loop-i.kept.rows c.row-row.result.now, c.loop-i.invariant.few));
    arity = ap (λ (b : Rows). b.arity) w.kept-is ∙ w.in_ok-push.ensures.arity ∙ c.loop-i.invariant.arity;
    rows = rw (w.kept-is, w.in_ok-push.ensures.rows)
        (row_kept (is_kept c.args.keep (keys_of c.args.other) c.args.sources.now) _ _ _ _
        c.row-row.ensures.row (sym c.keeps.ensures.kept ∙ w.if-keeps.true) c.loop-i.invariant.rows);
    cost = omega arith;
  }
  | else-keeps w ↦ record {
    values = c.keeps.auto.values ∙ c.loop-i.invariant.values;
    few = rw w.kept-is (omega (arith, c.loop-i.invariant.few));
    arity = ap (λ (b : Rows). b.arity) w.kept-is ∙ c.loop-i.invariant.arity;
    rows = rw w.kept-is
        (c.loop-i.invariant.rows
        ∙ sym (left_out (is_kept c.args.keep (keys_of c.args.other) c.args.sources.now) _ _ _
        c.row-row.ensures.row (sym c.keeps.ensures.kept ∙ w.if-keeps.false)));
    cost = omega arith;
  }
]

pub into_ascending-requires : goal.into_ascending-requires
into_ascending-requires g c =
    let all = c.loop-i.invariant.rows
    ∙ ap (filter (is_kept c.args.keep (keys_of c.args.other) c.args.sources.now))
    (take_all c.loop-i.i c.args.table.now.rows (omega (arith, c.len-i-end.ensures.len))) in
    subst IsAscending (sym all) (are_rows-filter _ _ _ c.len-i-end.ensures.rows).ascending

pub returns-clause-rows : goal.returns-clause-rows
returns-clause-rows g c =
    let all = c.loop-i.invariant.rows
    ∙ ap (filter (is_kept c.args.keep (keys_of c.args.other) c.args.sources.now))
    (take_all c.loop-i.i c.args.table.now.rows (omega (arith, c.len-i-end.ensures.len))) in
    rw c.into_ascending.ensures
    (subst (AreRows c.args.table.now.arity) (sym all) (are_rows-filter _ _ _ c.len-i-end.ensures.rows))

pub returns-clause-kept : goal.returns-clause-kept
returns-clause-kept g c =
    rw c.into_ascending.ensures
    (c.loop-i.invariant.rows ∙ ap (filter (is_kept c.args.keep (keys_of c.args.other) c.args.sources.now))
    (take_all c.loop-i.i c.args.table.now.rows (omega (arith, c.len-i-end.ensures.len))))

pub returns-clause-fewer : goal.returns-clause-fewer
returns-clause-fewer g c =
    let all = c.loop-i.invariant.rows
    ∙ ap (filter (is_kept c.args.keep (keys_of c.args.other) c.args.sources.now))
    (take_all c.loop-i.i c.args.table.now.rows (omega (arith, c.len-i-end.ensures.len))) in
    let within = c.first_left_out-first.ensures.within in
    rw (c.into_ascending.ensures, all)
    (fewer_kept _ _ _ (omega (arith, within, c.len.ensures.len)) c.first_left_out-first.ensures.kept)
