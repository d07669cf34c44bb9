use Rattle.std.proofs.Common.{◌≡◌, ◌+◌, ◌∙◌, IfSome, ap, subst, arith}
use Rattle.pl_registry.specs.declared.ended.Ended.{Ended}
use Rattle.pl_registry.specs.declared.ended.Stats.{Stats}
use Rattle.pl_task.specs.declared.task.Task.{Task}
use Rattle.pl_state.specs.Decided.{IsDecidedGoal}
use Rattle.pl_bfs.specs.Width.{IsWidthBrokenOff}
use Rattle.pl_hooks.proofs.Trials.{if_err}
use Rattle.pl_bfs.proofs.SiftedWhole.{wanting_from, found_first, begins, turn_ends, next_turn, nearer, closed}
use Rattle.pl_bfs.proofs.Bounds.{turn_added, width_within_bound}
use Rattle.pl_bfs.proofs.width_search.width.Goals as goal

pub returns-in_err-goal-clause-wanting : goal.returns-in_err-goal-clause-wanting
returns-in_err-goal-clause-wanting g c = wanting_from c.args.normal.now c.args.k c.args.registry.now
    c.requires.fresh c.from_residual.result

pub returns-then-holds-clause-ended : goal.returns-then-holds-clause-ended
returns-then-holds-clause-ended g c =
    found_first c.args.normal.now c.args.k c.args.registry.now c.requires.fresh c.task-2.result.now
    c.state.result.now c.holds.result c.of-none.result c.ended.result c.of-then-holds.result
    c.task-2.ensures c.state.ensures c.holds.ensures c.if-holds.true
    (c.of-none.ensures ∙ c.new.ensures.items) c.ended.ensures.ended c.of-then-holds.ensures.outcome
    c.of-then-holds.ensures.stats

pub returns-in_err-sieve-clause-wanting : goal.returns-in_err-sieve-clause-wanting
returns-in_err-sieve-clause-wanting g c = wanting_from c.args.normal.now c.args.k c.args.registry.now
    c.requires.fresh c.from_residual-in_err-sieve.result

pub loop-n-init : goal.loop-n-init
loop-n-init g c =
    record {
      way = begins c.args.normal.now c.args.k c.args.registry.now c.requires.fresh c.task-2.result.now
          c.state.result.now c.state-2.result.now c.holds.result c.in_ok-sieve.sieve c.task-3.result.now
          c.task-2.ensures c.task-3.ensures c.state.ensures c.holds.ensures c.if-holds.false c.state-2.ensures
          c.in_ok-sieve.ensures.notes c.in_ok-sieve.ensures.none;
      cost = λ acyclic. omega arith;
      rise = omega arith;
    }

pub expand_new-requires-clause-goal : goal.expand_new-requires-clause-goal
expand_new-requires-clause-goal g c = subst (λ (t : Task). IsDecidedGoal t c.in_ok-goal.goal) c.task.ensures
    c.in_ok-goal.ensures

pub returns-in_err-ended-clause-wanting : goal.returns-in_err-ended-clause-wanting
returns-in_err-ended-clause-wanting g c =
    if_err c.from_residual-in_err-ended.result
    (IsWidthBrokenOff c.args.normal.now c.args.k c.args.registry.now c.expand_new.new.registry)
    (c.in_err-ended.ensures.turn c.args.k c.args.registry.now c.loop-n.invariant.way)

pub returns-in-Some-clause-ended : goal.returns-in-Some-clause-ended
returns-in-Some-clause-ended g c =
    turn_ends c.args.normal.now c.args.k c.args.registry.now c.expand_new.new.registry c.loop-n.n
    c.expand_new.new.generated c.expand_new.new.sieve c.in_ok-ended.field-0 c.in-Some.ended
    c.of-in-Some.result c.in-Some.is
    (c.in_ok-ended.ensures.turn c.args.k c.args.registry.now c.loop-n.invariant.way)
    c.of-in-Some.ensures.outcome c.of-in-Some.ensures.stats

pub loop-n-smaller : goal.loop-n-smaller
loop-n-smaller g c =
    let next = next_turn c.args.normal.now c.args.k c.args.registry.now c.expand_new.new.registry c.loop-n.n
    c.expand_new.new.generated c.expand_new.new.sieve c.in_ok-ended.field-0 c.in_default.is
    (c.in_ok-ended.ensures.turn c.args.k c.args.registry.now c.loop-n.invariant.way) in
    nearer c.args.normal.now c.args.k c.args.registry.now c.loop-n.registry c.expand_new.new.registry
    c.loop-n.n c.loop-n.generated c.expand_new.new.generated c.loop-n.sieve c.expand_new.new.sieve
    c.loop-n.invariant.way next c.len.ensures.register
    (let l = c.len.ensures.len in let t = c.loop-n-test.true in omega (arith, l, t))

pub loop-n-preserved : goal.loop-n-preserved
loop-n-preserved g c =
    record {
      way = next_turn c.args.normal.now c.args.k c.args.registry.now c.expand_new.new.registry c.loop-n.n
          c.expand_new.new.generated c.expand_new.new.sieve c.in_ok-ended.field-0 c.in_default.is
          (c.in_ok-ended.ensures.turn c.args.k c.args.registry.now c.loop-n.invariant.way);
      cost = λ acyclic. turn_added c.args.normal.now c.loop-n.registry c.expand_new.new.registry c.loop-n.n _
          _ _
          (let e = c.len.ensures.len in let t = c.loop-n-test.true in omega (arith, e, t))
          c.in_ok-ended.ensures.kept
          (c.loop-n.invariant.cost acyclic) (c.in_ok-ended.ensures.cost acyclic);
      rise = (let a = c.loop-n.invariant.rise in let b = c.in_ok-ended.ensures.rise in omega (arith, a, b));
    }

pub returns-clause-ended : goal.returns-clause-ended
returns-clause-ended g c =
    closed c.args.normal.now c.args.k c.args.registry.now c.loop-n.registry c.loop-n.n c.loop-n.generated
    c.loop-n.sieve c.closed.result c.closed.ensures.outcome c.closed.ensures.stats
    c.closed.ensures.register
    (λ l. (let e = c.len.ensures.len in let t = c.loop-n-test.false in omega (arith, l, e, t)))
    c.loop-n.invariant.way

pub returns-then-holds-clause-cost : goal.returns-then-holds-clause-cost
returns-then-holds-clause-cost g c = λ acyclic search. omega arith

pub returns-in-Some-clause-cost : goal.returns-in-Some-clause-cost
returns-in-Some-clause-cost g c = λ acyclic search.
    width_within_bound c.args.normal.now c.args.k c.args.registry.now c.expand_new.new.registry
    c.of-in-Some.result _ _ (c.loop-n.n + 1)
    (ap (λ (s : Stats). s.expanded) c.of-in-Some.ensures.stats
    ∙ subst (λ end. IfSome end (λ (e : Ended). e.stats.expanded ≡ c.loop-n.n + 1)) c.in-Some.is
    c.in_ok-ended.ensures.counted)
    (turn_added c.args.normal.now c.loop-n.registry c.expand_new.new.registry c.loop-n.n _ _ _
    (let e = c.len.ensures.len in let t = c.loop-n-test.true in omega (arith, e, t))
    c.in_ok-ended.ensures.kept
    (c.loop-n.invariant.cost acyclic) (c.in_ok-ended.ensures.cost acyclic)) search

pub returns-clause-cost : goal.returns-clause-cost
returns-clause-cost g c = λ acyclic search.
    width_within_bound c.args.normal.now c.args.k c.args.registry.now c.loop-n.registry c.closed.result _ _
    c.loop-n.n
    (ap (λ (s : Stats). s.expanded) c.closed.ensures.stats) (c.loop-n.invariant.cost acyclic) search
