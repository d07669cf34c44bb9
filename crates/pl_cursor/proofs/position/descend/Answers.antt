use Rattle.std.proofs.Common.{◌<◌, ◌≤◌, arith, length}
use Rattle.pl_cursor.specs.Stages.{stages_of}
use Rattle.pl_cursor.proofs.Links.{stages_laid}
use Rattle.pl_cursor.proofs.Stops.{narrow_join}
use Rattle.pl_cursor.proofs.Positions.{some_row, descend_more, can_descend_more}
use Rattle.pl_cursor.proofs.position.descend.Goals as goal

pub enter-frame-requires-clause-onward : goal.enter-frame-requires-clause-onward
enter-frame-requires-clause-onward g c =
    some_row (stages_of c.args.reduced.now) (length c.args.reduced.now.classes) c.loop-t.frames
    c.loop-t.answer c.loop-t.t (omega (arith, c.requires.layout.count)) c.loop-t.invariant.0

pub loop-t-preserved : goal.loop-t-preserved
loop-t-preserved g c =
    let few = narrow_join c.args.reduced.now c.requires.layout.reduced in
    let laid = stages_laid c.args.reduced.now c.requires.layout.reduced in
    let within : c.loop-t.t < length (stages_of c.args.reduced.now) =
    omega (arith, c.requires.layout.count) in
    let frames : c.loop-t.t < length c.loop-t.frames =
    omega (
      arith,
      c.requires.frames,
      c.requires.layout.count,
      c.requires.layout.few,
      c.requires.layout.narrow,
    ) in
    let answer : length c.args.reduced.now.classes ≤ length c.loop-t.answer =
    omega (arith, c.requires.answer, few) in (
      can_descend_more (stages_of c.args.reduced.now) (length c.args.reduced.now.classes) c.loop-t.frames
          c.loop-t.answer c.enter-frame.new.answer c.loop-t.t c.enter-frame.result
          laid within frames answer c.enter-frame.ensures.first c.loop-t.invariant.0,
      λ left h. descend_more (stages_of c.args.reduced.now) (length c.args.reduced.now.classes) left
          c.loop-t.frames c.loop-t.answer c.enter-frame.new.answer c.loop-t.t c.enter-frame.result
          laid within frames answer c.enter-frame.ensures.first (c.loop-t.invariant.1 left h),
      omega (arith, c.enter-frame.ensures.cost, c.loop-t.invariant.2),
    )
