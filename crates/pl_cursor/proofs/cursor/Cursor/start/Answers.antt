use Rattle.std.proofs.Common.{◌≡◌, ◌∙◌, arith, ap, sym, length}
use Rattle.pl_rows.specs.Rows.{Rows}
use Rattle.pl_cursor.specs.Answers.{stage_at}
use Rattle.pl_cursor.specs.Stages.{stages_of}
use Rattle.pl_cursor.proofs.Links.{filled_join}
use Rattle.pl_cursor.proofs.Stops.{at_stop}
use Rattle.pl_cursor.proofs.Starting.{none_past, no_stage, at_first, from_first}
use Rattle.pl_cursor.proofs.cursor.Cursor.start.Goals as goal

pub returns-then-is_empty-clause-answers : goal.returns-then-is_empty-clause-answers
returns-then-is_empty-clause-answers c = rw c.new-position.ensures.depth
    (none_past c.args.reduced.now _ (c.is_empty.ensures.empty.0 c.if-is_empty.true))

pub returns-then-layout-eq0-clause-answers : goal.returns-then-layout-eq0-clause-answers
returns-then-layout-eq0-clause-answers c =
    let filled = filled_join c.args.reduced.now c.is_empty.result c.of-layout.ensures.reduced
    c.is_empty.ensures.empty c.if-is_empty.false in
    rw c.new-position.ensures.depth
    (no_stage c.args.reduced.now c.new-position.result.answer c.of-layout.ensures.reduced filled
    (omega (arith, c.of-layout.ensures.count, c.if-layout-eq0.true)))

pub invariant_of-result-2 : goal.invariant_of-result-2
invariant_of-result-2 c =
    let filled = filled_join c.args.reduced.now c.is_empty.result c.of-layout.ensures.reduced
    c.is_empty.ensures.empty c.if-is_empty.false in
    let there = at_stop c.args.reduced.now c.of-layout.result 0 c.new-position.result.answer
    c.of-layout.ensures (omega (arith, c.if-layout-eq0.false)) in
    let to : c.len-to.result ≡ length (stage_at (stages_of c.args.reduced.now) 0).rows = c.len-to.ensures.len
    ∙ ap (λ (t : Rows). length t.rows) c.table.ensures ∙ sym (ap length there.rows) in (
      c.of-layout.ensures,
      at_first c.args.reduced.now c.new-position.result.frames c.new-position.result.answer c.len-to.result
          c.of-layout.ensures.reduced filled
          (omega (arith, c.of-layout.ensures.count, c.if-layout-eq0.false))
          (omega (arith, c.new-position.ensures.frames)) to,
    )

pub returns-clause-answers : goal.returns-clause-answers
returns-clause-answers c =
    let filled = filled_join c.args.reduced.now c.is_empty.result c.of-layout.ensures.reduced
    c.is_empty.ensures.empty c.if-is_empty.false in
    let there = at_stop c.args.reduced.now c.of-layout.result 0 c.new-position.result.answer
    c.of-layout.ensures (omega (arith, c.if-layout-eq0.false)) in
    let to : c.len-to.result ≡ length (stage_at (stages_of c.args.reduced.now) 0).rows = c.len-to.ensures.len
    ∙ ap (λ (t : Rows). length t.rows) c.table.ensures ∙ sym (ap length there.rows) in
    from_first c.args.reduced.now c.new-position.result.frames c.new-position.result.answer c.len-to.result
    c.of-layout.ensures.reduced filled
    (omega (arith, c.of-layout.ensures.count, c.if-layout-eq0.false))
    (omega (arith, c.new-position.ensures.frames)) to
