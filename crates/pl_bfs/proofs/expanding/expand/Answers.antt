use Rattle.std.proofs.Common.{All, Some, None, sym, ap, subst, arith}
use Rattle.pl_task.specs.declared.task.Task.{Task}
use Rattle.pl_task.specs.States.{IsStep}
use Rattle.pl_state.specs.StateOf.{IsStateOf}
use Rattle.pl_registry.specs.Registered.{Registered}
use Rattle.pl_registry.specs.declared.ended.Ended.{Ended}
use Rattle.pl_registry.proofs.Bounds.{kept_all, kept_on, begun_within}
use Rattle.pl_gen.specs.Walks.{walk_reads}
use Rattle.pl_gen.proofs.Lent.{all_steps, lent, given, given_is_step, others_are_steps}
use Rattle.pl_bfs.proofs.Within.{tried_as, still_there, begun, over, failed, onward, ends}
use Rattle.pl_hooks.proofs.Trials.{sound_for, tried_keeps}
use Rattle.pl_bfs.proofs.expanding.expand.Goals as goal

pub loop-step-init : goal.loop-step-init
loop-step-init g c =
    record {
      number = c.requires.number;
      steps = all_steps c.args.normal.now c.state.result.now c.in_ok-prepared.prepared c.walk-walk.result.left
          c.in_ok-prepared.ensures.prepared c.walk-walk.ensures.left;
      way = λ first h. begun g.F.Fn c.args.normal.now c.args.pruner.now.cut first c.args.n c.args.registry.now
          c.args.generated.now c.state.result.now c.in_ok-prepared.prepared
          c.walk-walk.result.left h c.requires.number c.state.ensures c.in_ok-prepared.ensures.prepared
          c.walk-walk.ensures.left;
      kept = kept_all c.args.registry.now;
      cost = λ acyclic. begun_within c.args.normal.now c.args.registry.now c.args.n c.state.result.now _ _
          (walk_reads c.in_ok-prepared.prepared) _
          c.state.ensures c.walk-walk.ensures.reads (c.in_ok-prepared.ensures.cost acyclic);
      rise = c.in_ok-prepared.ensures.rise;
    }

pub try_step-requires-clause-states : goal.try_step-requires-clause-states
try_step-requires-clause-states g c =
    let (first, way) = c.requires.way in
    let within = c.loop-step.invariant.way first way in
    subst (λ (t : Task). All (λ (e : Registered). IsStateOf t e.words) c.loop-step.registry.entries)
    (sym c.task.ensures) within.turn.holds.states

pub try_step-requires-clause-sound : goal.try_step-requires-clause-sound
try_step-requires-clause-sound g c =
    sound_for g.F.Fn c.args.normal.now c.task.result.now c.args.pruner.now.cut c.task.ensures c.requires.sound

pub try_step-requires-clause-step : goal.try_step-requires-clause-step
try_step-requires-clause-step g c =
    let gives = given c.loop-step.walk c.next.follows.lender-at-none c.next.result c.in-Some.step c.in-Some.is
    c.next.follows.holds-at-none.0 in
    subst (λ (t : Task). IsStep t (lent c.in-Some.step)) (sym c.task.ensures)
    (given_is_step c.args.normal.now c.loop-step.walk c.next.follows.lender-at-none
    (lent c.in-Some.step) c.loop-step.invariant.steps gives)

pub returns-in_err-outcome-clause-turn : goal.returns-in_err-outcome-clause-turn
returns-in_err-outcome-clause-turn g c = λ first h.
    failed g.F.Fn c.args.normal.now c.args.pruner.now.cut first c.args.n c.loop-step.registry
    c.try_step.new.registry c.loop-step.walk.left c.loop-step.generated c.saturating_add.result
    c.from_residual-in_err-outcome.result c.from_residual-in_err-outcome.ensures.0 c.in_err-outcome.ensures
    (c.loop-step.invariant.way first h)

pub returns-in-Some-2-clause-turn : goal.returns-in-Some-2-clause-turn
returns-in-Some-2-clause-turn g c = λ first h.
    let gives = given c.loop-step.walk c.next.follows.lender-at-none c.next.result c.in-Some.step c.in-Some.is
    c.next.follows.holds-at-none.0 in
    let tried = tried_as g.F.Fn c.args.normal.now c.task.result.now c.args.pruner.now.cut c.loop-step.registry
    c.try_step.new.registry c.args.n (lent c.in-Some.step)
    c.in_ok-outcome.field-0 (Some c.in-Some-2.outcome) c.task.ensures c.in-Some-2.is
    c.in_ok-outcome.ensures in
    ends g.F.Fn c.args.normal.now c.args.pruner.now.cut first c.args.n c.loop-step.registry
    c.try_step.new.registry (lent c.in-Some.step)
    c.next.follows.lender-at-none.left c.loop-step.walk.left c.loop-step.generated c.saturating_add.result
    (c.loop-step.invariant.way first h) gives.left c.saturating_add.ensures
    c.in-Some-2.outcome c.ended.result c.ended.ensures.ended c.ended.ensures.register tried

pub loop-step-preserved : goal.loop-step-preserved
loop-step-preserved g c =
    let gives = given c.loop-step.walk c.next.follows.lender-at-none c.next.result c.in-Some.step c.in-Some.is
    c.next.follows.holds-at-none.0 in
    let tried = tried_as g.F.Fn c.args.normal.now c.task.result.now c.args.pruner.now.cut c.loop-step.registry
    c.try_step.new.registry c.args.n (lent c.in-Some.step)
    c.in_ok-outcome.field-0 None c.task.ensures c.in_default-2.is c.in_ok-outcome.ensures in
    record {
      number = still_there g.F.Fn c.args.normal.now c.args.pruner.now.cut c.loop-step.registry
          c.try_step.new.registry c.args.n (lent c.in-Some.step) tried c.loop-step.invariant.number;
      steps = others_are_steps c.args.normal.now c.loop-step.walk c.next.follows.lender-at-none
          (lent c.in-Some.step) c.loop-step.invariant.steps gives;
      way = λ first h. onward g.F.Fn c.args.normal.now c.args.pruner.now.cut first c.args.n
          c.loop-step.registry c.try_step.new.registry (lent c.in-Some.step)
          c.next.follows.lender-at-none.left c.loop-step.walk.left c.loop-step.generated
          c.saturating_add.result (c.loop-step.invariant.way first h) gives.left c.saturating_add.ensures
          tried;
      kept = kept_on c.loop-step.invariant.kept
          (tried_keeps g.F.Fn c.args.normal.now c.args.pruner.now.cut c.loop-step.registry
          c.try_step.new.registry c.args.n (lent c.in-Some.step) None tried);
      cost = λ acyclic.
          (let so_far = c.loop-step.invariant.cost acyclic in let turn = c.next.follows.holds-at-none.1 in
          omega (arith, so_far, turn));
      rise = omega (arith, c.loop-step.invariant.rise, c.next.ensures.rise);
    }

pub returns-clause-turn : goal.returns-clause-turn
returns-clause-turn g c = λ first h.
    over g.F.Fn c.args.normal.now c.args.pruner.now.cut first c.args.n c.loop-step.registry
    c.loop-step.walk.left c.loop-step.generated c.in_default.ensures.none
    (c.loop-step.invariant.way first h)

pub returns-in-Some-2-clause-kept : goal.returns-in-Some-2-clause-kept
returns-in-Some-2-clause-kept g c =
    let tried = tried_as g.F.Fn c.args.normal.now c.task.result.now c.args.pruner.now.cut c.loop-step.registry
    c.try_step.new.registry c.args.n (lent c.in-Some.step)
    c.in_ok-outcome.field-0 (Some c.in-Some-2.outcome) c.task.ensures c.in-Some-2.is
    c.in_ok-outcome.ensures in
    kept_on c.loop-step.invariant.kept
    (tried_keeps g.F.Fn c.args.normal.now c.args.pruner.now.cut c.loop-step.registry c.try_step.new.registry
    c.args.n (lent c.in-Some.step) (Some c.in-Some-2.outcome) tried)

pub returns-in-Some-2-clause-counted : goal.returns-in-Some-2-clause-counted
returns-in-Some-2-clause-counted g c = ap (λ (e : Ended). e.stats.expanded) c.ended.ensures.ended

pub returns-in-Some-2-clause-cost : goal.returns-in-Some-2-clause-cost
returns-in-Some-2-clause-cost g c = λ acyclic.
    (let so_far = c.loop-step.invariant.cost acyclic in let turn = c.next.follows.holds-at-none.1 in
    omega (arith, so_far, turn))

pub returns-clause-cost : goal.returns-clause-cost
returns-clause-cost g c = λ acyclic.
    (let so_far = c.loop-step.invariant.cost acyclic in let turn = c.next.follows.holds-at-none.1 in
    omega (arith, so_far, turn))
