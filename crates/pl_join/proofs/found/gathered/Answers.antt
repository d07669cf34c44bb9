use Rattle.std.proofs.Common.{◌≡◌, ◌≤◌, ◌++◌, length, get_or, slice_range, ap, sym, ◌∙◌, subst, arith, IfOk}
use Rattle.std.proofs.lemmas.List.{take_all}
use Rattle.pl_rows.specs.Rows.{Rows, AreRows, SameRows}
use Rattle.pl_rows.specs.declared.range.Range.{Range}
use Rattle.pl_join.specs.Found.{rows_in}
use Rattle.pl_join.proofs.Founds.{rows_in-more, rows_in-most}
use Rattle.pl_join.proofs.found.gathered.Goals as goal

pub push_range-requires-clause-arity : goal.push_range-requires-clause-arity
push_range-requires-clause-arity c = sym c.loop-range.invariant.arity

pub push_range-requires-clause-few : goal.push_range-requires-clause-few
push_range-requires-clause-few c =
    let d : Range = record { from = 0; to = 0 } in
    omega (
      arith,
      rows_in-most c.args.table.now.rows c.args.ranges.now c.loop-range.range-index d
          c.loop-range-test.true c.requires.within,
      ap length c.loop-range.invariant.rows,
      c.requires.most,
      c.requires.few,
    )

pub loop-range-preserved : goal.loop-range-preserved
loop-range-preserved c =
    let d : Range = record { from = 0; to = 0 } in
    record {
      arity = c.push_range.ensures.arity ∙ c.loop-range.invariant.arity;
      rows = c.in_ok-push_range.ensures.rows
          ∙ ap (λ rs. rs ++ slice_range c.args.table.now.rows
          (get_or c.args.ranges.now c.loop-range.range-index d).from
          (get_or c.args.ranges.now c.loop-range.range-index d).to) c.loop-range.invariant.rows
          ∙ sym (rows_in-more c.args.table.now.rows c.args.ranges.now c.loop-range.range-index d
          c.loop-range-test.true);
    }

pub returns-clause-arity : goal.returns-clause-arity
returns-clause-arity c = subst (λ n. IfOk c.into_table.result (λ (t : Rows). t.arity ≡ n))
    c.loop-range.invariant.arity c.into_table.ensures.arity

pub returns-clause-rows : goal.returns-clause-rows
returns-clause-rows c = subst (λ n. IfOk c.into_table.result (λ (t : Rows). AreRows n t.rows))
    c.loop-range.invariant.arity c.into_table.ensures.rows

pub returns-clause-same : goal.returns-clause-same
returns-clause-same c =
    subst (λ rs. IfOk c.into_table.result (λ (t : Rows). SameRows t.rows rs))
    (c.loop-range.invariant.rows ∙ ap (rows_in c.args.table.now.rows)
    (take_all c.loop-range.range-index c.args.ranges.now c.loop-range-test.false))
    c.into_table.ensures.same

pub returns-clause-fewer : goal.returns-clause-fewer
returns-clause-fewer c =
    subst (λ rs. IfOk c.into_table.result (λ (t : Rows). length t.rows ≤ length rs))
    (c.loop-range.invariant.rows ∙ ap (rows_in c.args.table.now.rows)
    (take_all c.loop-range.range-index c.args.ranges.now c.loop-range-test.false))
    c.into_table.ensures.most
