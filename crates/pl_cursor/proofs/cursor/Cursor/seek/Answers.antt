use Rattle.std.proofs.Common.{◌&&◌, ap, sym, ◌∙◌}
use Rattle.pl_cursor.proofs.Links.{never_ends, filled_join}
use Rattle.pl_cursor.proofs.Starting.{none_past}
use Rattle.pl_cursor.proofs.Narrowing.{narrowed_past}
use Rattle.pl_cursor.proofs.cursor.Cursor.seek.Goals as goal
use Rattle.pl_cursor.proofs.cursor.Cursor.seek.Goals.{then-narrowed, else-narrowed}

pub returns-then-is_empty-clause-answers : goal.returns-then-is_empty-clause-answers
returns-then-is_empty-clause-answers g c = rw c.new-position.ensures.depth
    (none_past c.args.reduced.now _ (c.is_empty.ensures.empty.0 c.if-is_empty.true))

pub narrow-narrowed-requires-clause-onward : goal.narrow-narrowed-requires-clause-onward
narrow-narrowed-requires-clause-onward g c =
    never_ends c.args.reduced.now c.of-layout.ensures.reduced
    (filled_join c.args.reduced.now c.is_empty.result c.of-layout.ensures.reduced c.is_empty.ensures.empty
    c.if-is_empty.false)

pub returns-clause-answers : goal.returns-clause-answers
returns-clause-answers g c =
    let filled = filled_join c.args.reduced.now c.is_empty.result c.of-layout.ensures.reduced
    c.is_empty.ensures.empty c.if-is_empty.false in
    narrowed_past c.args.reduced.now c.new-position.result.answer c.write_at.new.values c.args.past.now
    c.narrow-narrowed.new.frames c.narrow-narrowed.result c.args.inclusive c.if-narrowed.result
    c.of-layout.ensures.reduced filled c.requires c.write_at.ensures c.narrow-narrowed.ensures.narrowed
    (elim c.if-narrowed.branch [
      | then-narrowed w ↦ w.result-is ∙ sym (ap (λ b. b && c.args.inclusive) w.if-narrowed.true)
      | else-narrowed w ↦ w.result-is ∙ w.if-narrowed.false
          ∙ sym (ap (λ b. b && c.args.inclusive) w.if-narrowed.false)
    ])
