use Rattle.std.proofs.Common.{arith, length, subst}
use Rattle.pl_cursor.specs.Stages.{stages_of}
use Rattle.pl_cursor.specs.Kept.{Narrows}
use Rattle.pl_cursor.proofs.Links.{stages_laid}
use Rattle.pl_cursor.proofs.Stops.{narrow_join}
use Rattle.pl_cursor.proofs.Positions.{some_row}
use Rattle.pl_cursor.proofs.Narrowing.{narrows_none, can_narrow, narrow_more, narrow_stop, narrow_all}
use Rattle.pl_cursor.proofs.Narrowing.{not_true, not_false}
use Rattle.pl_cursor.proofs.narrow.narrow.Goals as goal

pub loop-t-init : goal.loop-t-init
loop-t-init g c = (
  narrows_none (stages_of c.args.reduced.now) (length c.args.reduced.now.classes) c.args.frames.now
      c.args.answer.now (stages_laid c.args.reduced.now c.requires.layout.reduced) c.requires.onward,
  omega arith,
  omega arith,
)

pub place_of-place-requires-clause-onward : goal.place_of-place-requires-clause-onward
place_of-place-requires-clause-onward g c =
    some_row (stages_of c.args.reduced.now) (length c.args.reduced.now.classes) c.loop-t.frames
    c.args.answer.now c.loop-t.t (omega (arith, c.requires.layout.count))
    (can_narrow (stages_of c.args.reduced.now) (length c.args.reduced.now.classes) c.loop-t.frames
    c.args.answer.now c.loop-t.t c.loop-t.invariant.0)

pub returns-then-not-place-clause-narrowed : goal.returns-then-not-place-clause-narrowed
returns-then-not-place-clause-narrowed g c =
    let few = narrow_join c.args.reduced.now c.requires.layout.reduced in
    narrow_stop (stages_of c.args.reduced.now) (length c.args.reduced.now.classes) c.loop-t.frames
    c.args.answer.now c.loop-t.t c.place_of-place.result
    (omega (arith, c.requires.layout.count))
    (omega (
      arith,
      c.requires.layout.narrow,
      c.requires.layout.few,
      c.requires.frames,
      c.loop-t.auto.frames,
    )) (omega (arith, few, c.requires.answer))
    c.loop-t.invariant.0 c.place_of-place.ensures.place
    (not_true c.place_of-place.result.found c.if-not-place.true)

pub loop-t-preserved : goal.loop-t-preserved
loop-t-preserved g c =
    let few = narrow_join c.args.reduced.now c.requires.layout.reduced in (
      narrow_more (stages_of c.args.reduced.now) (length c.args.reduced.now.classes) c.loop-t.frames
          c.args.answer.now c.loop-t.t c.place_of-place.result
          (omega (arith, c.requires.layout.count))
          (omega (
            arith,
            c.requires.layout.narrow,
            c.requires.layout.few,
            c.requires.frames,
            c.loop-t.auto.frames,
          )) (omega (arith, few, c.requires.answer))
          c.loop-t.invariant.0 c.place_of-place.ensures.place
          (not_false c.place_of-place.result.found c.if-not-place.false),
      omega (arith, c.place_of-place.ensures.cost, c.loop-t.invariant.1),
      omega (arith, c.place_of-place.ensures.rise, c.loop-t.invariant.2),
    )

pub returns-clause-narrowed : goal.returns-clause-narrowed
returns-clause-narrowed g c =
    narrow_all (stages_of c.args.reduced.now) (length c.args.reduced.now.classes) c.loop-t.frames
    c.args.answer.now (length c.args.layout.now.stops.now) c.requires.layout.count
    (subst (Narrows (stages_of c.args.reduced.now) (length c.args.reduced.now.classes) c.loop-t.frames
    c.args.answer.now) (omega (arith, c.loop-t-test.false, c.loop-t.auto.t-end)) c.loop-t.invariant.0)
