use Rattle.std.proofs.Common.{All, Some, None, sym, subst, arith}
use Rattle.std.specs.BinaryHeap.{heap_items}
use Rattle.pl_task.specs.declared.task.Task.{Task}
use Rattle.pl_task.specs.States.{IsStep}
use Rattle.pl_state.specs.StateOf.{IsStateOf}
use Rattle.pl_registry.specs.Registered.{Registered}
use Rattle.pl_registry.proofs.Bounds.{kept_all, kept_on, begun_within}
use Rattle.pl_gen.specs.Walks.{walk_reads}
use Rattle.pl_gen.proofs.Lent.{all_steps, lent, given, given_is_step, others_are_steps}
use Rattle.pl_greedy.proofs.Within.{tried_as, failed_as, still_there, begun, over, failed, onward, ends}
use Rattle.pl_greedy.proofs.Bounds.{attempt_keeps}
use Rattle.pl_greedy.proofs.expanding.expand.Goals as goal

pub loop-step-init : goal.loop-step-init
loop-step-init g c =
    record {
      number = c.requires.number;
      steps = all_steps c.args.normal.now c.state.result.now c.in_ok-prepared.prepared c.walk-walk.result.left
          c.in_ok-prepared.ensures.prepared c.walk-walk.ensures.left;
      way = λ first past h. begun g.G.Fn c.args.normal.now c.args.pruner.now.cut first past c.args.n
          c.args.registry.now (heap_items c.args.waiting.now) c.args.expanded c.args.generated.now
          c.state.result.now c.in_ok-prepared.prepared c.walk-walk.result.left h c.state.ensures
          c.in_ok-prepared.ensures.prepared c.walk-walk.ensures.left;
      kept = kept_all c.args.registry.now;
      cost = λ acyclic. begun_within c.args.normal.now c.args.registry.now c.args.n c.state.result.now _ _
          (walk_reads c.in_ok-prepared.prepared) _
          c.state.ensures c.walk-walk.ensures.reads (c.in_ok-prepared.ensures.cost acyclic);
      rise = c.in_ok-prepared.ensures.rise;
    }

pub attempt-requires-clause-states : goal.attempt-requires-clause-states
attempt-requires-clause-states g c =
    let (first, past, way) = c.requires.way in
    let within = c.loop-step.invariant.way first past way in
    subst (λ (t : Task). All (λ (e : Registered). IsStateOf t e.words) c.loop-step.registry.entries)
    (sym c.task.ensures) within.turn.holds.states

pub attempt-requires-clause-step : goal.attempt-requires-clause-step
attempt-requires-clause-step g c =
    let gives = given c.loop-step.walk c.next.follows.lender-at-none c.next.result c.in-Some.step c.in-Some.is
    c.next.follows.holds-at-none.0 in
    subst (λ (t : Task). IsStep t (lent c.in-Some.step)) (sym c.task.ensures)
    (given_is_step c.args.normal.now c.loop-step.walk c.next.follows.lender-at-none
    (lent c.in-Some.step) c.loop-step.invariant.steps gives)

pub returns-in_err-outcome-clause-turn : goal.returns-in_err-outcome-clause-turn
returns-in_err-outcome-clause-turn g c = λ first past h.
    let gives = given c.loop-step.walk c.next.follows.lender-at-none c.next.result c.in-Some.step c.in-Some.is
    c.next.follows.holds-at-none.0 in
    let came = failed_as g.G.Fn c.args.normal.now c.task.result.now c.args.pruner.now.cut c.loop-step.registry
    c.attempt.new.registry c.args.n (lent c.in-Some.step)
    c.task.ensures c.in_err-outcome.ensures in
    failed g.G.Fn c.args.normal.now c.args.pruner.now.cut first past c.args.n c.loop-step.registry
    c.attempt.new.registry (lent c.in-Some.step)
    c.next.follows.lender-at-none.left c.loop-step.walk.left (heap_items c.loop-step.waiting) c.args.expanded
    c.loop-step.generated c.saturating_add.result (c.loop-step.invariant.way first past h) gives.left
    c.saturating_add.ensures
    (heap_items c.attempt.new.waiting) c.saturating_add.result c.from_residual-in_err-outcome.result
    c.from_residual-in_err-outcome.ensures.0 came

pub returns-in-Some-2-clause-turn : goal.returns-in-Some-2-clause-turn
returns-in-Some-2-clause-turn g c = λ first past h.
    let gives = given c.loop-step.walk c.next.follows.lender-at-none c.next.result c.in-Some.step c.in-Some.is
    c.next.follows.holds-at-none.0 in
    let tried = tried_as g.G.Fn c.args.normal.now c.task.result.now c.args.pruner.now.cut c.loop-step.registry
    c.attempt.new.registry c.args.n (lent c.in-Some.step)
    (heap_items c.loop-step.waiting) (heap_items c.attempt.new.waiting) c.in_ok-outcome.field-0
    (Some c.in-Some-2.outcome) c.task.ensures c.in-Some-2.is c.in_ok-outcome.ensures in
    ends g.G.Fn c.args.normal.now c.args.pruner.now.cut first past c.args.n c.loop-step.registry
    c.attempt.new.registry (lent c.in-Some.step)
    c.next.follows.lender-at-none.left c.loop-step.walk.left (heap_items c.loop-step.waiting) c.args.expanded
    c.loop-step.generated c.saturating_add.result (c.loop-step.invariant.way first past h) gives.left
    c.saturating_add.ensures
    c.in-Some-2.outcome c.ended.result c.ended.ensures.ended c.ended.ensures.register tried

pub loop-step-preserved : goal.loop-step-preserved
loop-step-preserved g c =
    let gives = given c.loop-step.walk c.next.follows.lender-at-none c.next.result c.in-Some.step c.in-Some.is
    c.next.follows.holds-at-none.0 in
    let tried = tried_as g.G.Fn c.args.normal.now c.task.result.now c.args.pruner.now.cut c.loop-step.registry
    c.attempt.new.registry c.args.n (lent c.in-Some.step)
    (heap_items c.loop-step.waiting) (heap_items c.attempt.new.waiting) c.in_ok-outcome.field-0 None
    c.task.ensures c.in_default-2.is c.in_ok-outcome.ensures in
    record {
      number = still_there g.G.Fn c.args.normal.now c.args.pruner.now.cut c.loop-step.registry
          c.attempt.new.registry c.args.n (lent c.in-Some.step)
          (heap_items c.loop-step.waiting) (heap_items c.attempt.new.waiting) tried
          c.loop-step.invariant.number;
      steps = others_are_steps c.args.normal.now c.loop-step.walk c.next.follows.lender-at-none
          (lent c.in-Some.step) c.loop-step.invariant.steps gives;
      way = λ first past h. onward g.G.Fn c.args.normal.now c.args.pruner.now.cut first past c.args.n
          c.loop-step.registry c.attempt.new.registry (lent c.in-Some.step)
          c.next.follows.lender-at-none.left c.loop-step.walk.left (heap_items c.loop-step.waiting)
          c.args.expanded c.loop-step.generated c.saturating_add.result
          (c.loop-step.invariant.way first past h) gives.left c.saturating_add.ensures
          (heap_items c.attempt.new.waiting) tried;
      kept = kept_on c.loop-step.invariant.kept
          (attempt_keeps g.G.Fn c.args.normal.now c.args.pruner.now.cut c.loop-step.registry
          c.attempt.new.registry c.args.n (lent c.in-Some.step)
          (heap_items c.loop-step.waiting) (heap_items c.attempt.new.waiting) None tried);
      cost = λ acyclic.
          (let so_far = c.loop-step.invariant.cost acyclic in let turn = c.next.follows.holds-at-none.1 in
          omega (arith, so_far, turn));
      rise = omega (arith, c.loop-step.invariant.rise, c.next.ensures.rise);
    }

pub returns-clause-turn : goal.returns-clause-turn
returns-clause-turn g c = λ first past h.
    over g.G.Fn c.args.normal.now c.args.pruner.now.cut first past c.args.n c.loop-step.registry
    (heap_items c.loop-step.waiting) c.loop-step.walk.left c.args.expanded c.loop-step.generated
    c.in_default.ensures.none
    (c.loop-step.invariant.way first past h)

pub returns-in-Some-2-clause-kept : goal.returns-in-Some-2-clause-kept
returns-in-Some-2-clause-kept g c =
    let tried = tried_as g.G.Fn c.args.normal.now c.task.result.now c.args.pruner.now.cut c.loop-step.registry
    c.attempt.new.registry c.args.n (lent c.in-Some.step)
    (heap_items c.loop-step.waiting) (heap_items c.attempt.new.waiting) c.in_ok-outcome.field-0
    (Some c.in-Some-2.outcome) c.task.ensures c.in-Some-2.is c.in_ok-outcome.ensures in
    kept_on c.loop-step.invariant.kept
    (attempt_keeps g.G.Fn c.args.normal.now c.args.pruner.now.cut c.loop-step.registry c.attempt.new.registry
    c.args.n (lent c.in-Some.step)
    (heap_items c.loop-step.waiting) (heap_items c.attempt.new.waiting) (Some c.in-Some-2.outcome) tried)

pub returns-in-Some-2-clause-cost : goal.returns-in-Some-2-clause-cost
returns-in-Some-2-clause-cost g c = λ acyclic.
    (let so_far = c.loop-step.invariant.cost acyclic in let turn = c.next.follows.holds-at-none.1 in
    omega (arith, so_far, turn))

pub returns-clause-cost : goal.returns-clause-cost
returns-clause-cost g c = λ acyclic.
    (let so_far = c.loop-step.invariant.cost acyclic in let turn = c.next.follows.holds-at-none.1 in
    omega (arith, so_far, turn))
