use Rattle.std.proofs.Common.{◌<◌, subst, arith}
use Rattle.pl_gen.proofs.Stepping.{next_place}
use Rattle.pl_gen.proofs.Reading.{read_next, local_next}
use Rattle.pl_gen.proofs.place.walk_on.Goals as goal

pub loop-place-preserved : goal.loop-place-preserved
loop-place-preserved g c =
    let low = subst (λ n. c.loop-place.place.number < n) c.count-count.ensures c.loop-place-test.true in
    let went = next_place c.args.prepared.now c.loop-place.place c.take_step.new.place c.args.place.now
    c.begin_turn.new.turn c.args.steps.now c.loop-place.steps c.take_step.new.steps low
    c.if-take_step.ensures.takes c.take_step.ensures.place
    c.begin_turn.ensures.steps c.begin_turn.ensures.turn (
      c.loop-place.invariant.0,
      c.loop-place.invariant.1,
      c.loop-place.invariant.2,
      c.loop-place.invariant.3,
    ) c.take_step.ensures.rise in
    let same = c.if-take_step.ensures.takes.1.0 in
    let from = c.loop-place.invariant.6 in (
      went.0,
      went.1,
      went.2,
      went.3,
      read_next c.args.prepared.now c.loop-place.place c.take_step.new.place c.begin_turn.new.turn _
          c.loop-place.steps c.take_step.new.steps c.loop-place.invariant.4 c.take_step.ensures.cost
          c.begin_turn.ensures.reads,
      local_next c.args.prepared.now c.args.place.now.number c.loop-place.place.number
          c.take_step.new.place.number c.args.steps.now c.loop-place.steps c.take_step.new.steps
          c.loop-place.invariant.5 c.loop-place.invariant.6 low same c.if-take_step.ensures.local,
      omega (arith, from, same),
    )
