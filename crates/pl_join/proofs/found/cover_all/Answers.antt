use Rattle.std.proofs.Common.{length, take, get_or, slice_range, ap, sym, ◌∙◌, arith}
use Rattle.std.proofs.lemmas.Bool.Decides.{Decides-eqb}
use Rattle.std.proofs.lemmas.List.{take_all, length-append}
use Rattle.pl_rows.specs.declared.range.Range.{Range}
use Rattle.pl_join.specs.Found.{rows_in}
use Rattle.pl_join.proofs.Founds.{length-range, rows_in-more, rows_in-most}
use Rattle.pl_join.proofs.found.cover_all.Goals as goal

pub overflow_add-count : goal.overflow_add-count
overflow_add-count c =
    let d : Range = record { from = 0; to = 0 } in
    omega (
      arith,
      rows_in-most c.args.table.now.rows c.args.ranges.now c.loop-range.range-index d
          c.loop-range-test.true c.requires.within,
      c.loop-range.invariant,
      c.requires.most,
      c.len-len.ensures.len,
    )

pub loop-range-preserved : goal.loop-range-preserved
loop-range-preserved c =
    let d : Range = record { from = 0; to = 0 } in
    let is = c.requires.within c.loop-range.range-index d c.loop-range-test.true in
    let more = ap length
    (rows_in-more c.args.table.now.rows c.args.ranges.now c.loop-range.range-index d
    c.loop-range-test.true) in
    omega (
      arith,
      more,
      length-append
          (rows_in c.args.table.now.rows (take c.loop-range.range-index c.args.ranges.now))
          (slice_range c.args.table.now.rows (get_or c.args.ranges.now c.loop-range.range-index d).from
          (get_or c.args.ranges.now c.loop-range.range-index d).to),
      length-range c.args.table.now.rows (get_or c.args.ranges.now c.loop-range.range-index d).from
          (get_or c.args.ranges.now c.loop-range.range-index d).to is.in_order is.within,
      c.loop-range.invariant,
    )

pub returns-clause-all : goal.returns-clause-all
returns-clause-all c =
    let all = c.loop-range.invariant ∙ ap (λ rs. length (rows_in c.args.table.now.rows rs))
    (take_all c.loop-range.range-index c.args.ranges.now c.loop-range-test.false) in
    let (shown, shows) = Decides-eqb c.loop-range.count c.len-len.result in (
      λ h. sym all ∙ shown h ∙ c.len-len.ensures.len,
      λ e. shows (all ∙ e ∙ sym c.len-len.ensures.len),
    )
