use Rattle.std.proofs.Common.{arith, ◌∙◌, ◌<◌, length}
use Rattle.pl_state.proofs.Readings.{part_at, start_more, start_static, definition_read}
use Rattle.pl_state.proofs.parts.part_start.Goals as goal
use Rattle.pl_state.proofs.parts.part_start.Goals.{then-not-definition, else-not-definition}

pub part_end-at-requires : goal.part_end-at-requires
part_end-at-requires c =
    let within : c.loop-number.number < length c.args.task.now.predicates = omega arith in
    let found = definition_read c.args.task.now c.as_slice-predicates.result.now c.loop-number.number
    c.index-predicates-number.result c.as_slice-predicates.ensures within c.index-predicates-number.is in
    (part_at c.args.task.now c.args.words.now c.loop-number.number c.loop-number.at
    c.index-predicates-number.result c.requires.state c.loop-number.invariant found
    c.if-not-definition.true).whole

pub loop-number-preserved : goal.loop-number-preserved
loop-number-preserved c =
    let within : c.loop-number.number < length c.args.task.now.predicates = omega arith in
    let found = definition_read c.args.task.now c.as_slice-predicates.result.now c.loop-number.number
    c.index-predicates-number.result c.as_slice-predicates.ensures within c.index-predicates-number.is in
    elim c.if-not-definition.branch [
      | then-not-definition w ↦
          w.at-is ∙ w.part_end-at.ensures ∙
          start_more c.args.task.now c.args.words.now c.loop-number.number c.loop-number.at
          c.index-predicates-number.result c.requires.state c.loop-number.invariant found
          w.if-not-definition.true
      | else-not-definition w ↦
          w.at-is ∙ start_static c.args.task.now c.args.words.now c.loop-number.number c.loop-number.at
          c.index-predicates-number.result c.loop-number.invariant found w.if-not-definition.false
    ]
