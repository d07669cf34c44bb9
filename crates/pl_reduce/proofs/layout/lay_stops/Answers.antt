use Rattle.std.proofs.Common.{◌≤◌, length, ap, arith}
use Rattle.pl_hyper.specs.ClassOrder.{class_order}
use Rattle.pl_reduce.proofs.Laying.{laid_none, laid_more, laid_same, laid_all, room}
use Rattle.pl_reduce.proofs.layout.lay_stops.Goals as goal
use Rattle.pl_reduce.proofs.layout.lay_stops.Goals.{then-seen+in_ok-push, else-seen}

pub loop-step-init : goal.loop-step-init
loop-step-init c = rw c.new-stops.ensures.items (laid_none c.args.plan.now)

pub overflow_add-from : goal.overflow_add-from
overflow_add-from c =
    let few : length (class_order c.args.plan.now) ≤ 64 = omega
    (arith, ap length c.requires.order, c.requires.few) in
    let fits = room c.args.plan.now c.loop-step.stops.items c.loop-step.from c.loop-step.step
    c.in_ok-seen.seen.node c.in_ok-seen.seen.width c.in_ok-seen.seen.arity c.removed-ears.ensures.removal
    c.removed-ears.ensures.walkable few c.loop-step.invariant c.in_ok-seen.ensures
    (omega (arith, ap length c.removed-ears.ensures.removed, c.loop-step-test.true)) in
    omega (arith, fits)

pub loop-step-preserved : goal.loop-step-preserved
loop-step-preserved c =
    let within = ap length c.removed-ears.ensures.removed in
    elim c.if-seen.branch [
      | then-seen+in_ok-push w ↦ (
          let next = laid_more c.args.plan.now c.loop-step.stops.items c.loop-step.from c.loop-step.step
          c.in_ok-seen.seen.node c.in_ok-seen.seen.width c.in_ok-seen.seen.arity c.loop-step.invariant
          c.in_ok-seen.ensures (omega (arith, within, c.loop-step-test.true)) w.if-seen.true in
          rw (w.stops-is, w.from-is, w.in_ok-push.ensures.items) next)
      | else-seen w ↦ (
          let next = laid_same c.args.plan.now c.loop-step.stops.items c.loop-step.from c.loop-step.step
          c.in_ok-seen.seen.node c.in_ok-seen.seen.width c.in_ok-seen.seen.arity c.loop-step.invariant
          c.in_ok-seen.ensures (omega (arith, within, c.loop-step-test.true)) w.if-seen.false in
          rw (w.stops-is, w.from-is) next)
    ]

pub returns : goal.returns
returns c =
    laid_all c.args.plan.now c.loop-step.stops.items c.loop-step.from c.loop-step.step c.loop-step.invariant
    (omega (arith, ap length c.removed-ears.ensures.removed, c.loop-step-test.false))
