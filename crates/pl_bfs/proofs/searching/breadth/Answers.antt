use Rattle.std.proofs.Common.{◌≡◌, ◌+◌, ◌∙◌, IfSome, ap, subst, arith}
use Rattle.pl_registry.specs.declared.ended.Ended.{Ended}
use Rattle.pl_hooks.proofs.Trials.{sound_for}
use Rattle.pl_bfs.proofs.Whole.{wanting_from, found_first, cut_first, begins, turn_ends, next_turn, nearer}
use Rattle.pl_bfs.proofs.Whole.{closed}
use Rattle.pl_bfs.proofs.LeastFound.{least_ended}
use Rattle.pl_bfs.proofs.Bounds.{turn_added, within_bound}
use Rattle.pl_bfs.proofs.searching.breadth.Goals as goal

pub returns-in_err-goal-clause-wanting : goal.returns-in_err-goal-clause-wanting
returns-in_err-goal-clause-wanting g c = wanting_from g.F.Fn c.args.normal.now c.args.pruner.now.cut
    c.args.registry.now c.requires.fresh c.from_residual.result

pub returns-then-holds-clause-ended : goal.returns-then-holds-clause-ended
returns-then-holds-clause-ended g c =
    found_first g.F.Fn c.args.normal.now c.args.pruner.now.cut c.args.registry.now c.requires.fresh
    c.task-2.result.now c.state.result.now c.holds.result c.of-none.result c.ended.result
    c.task-2.ensures c.state.ensures c.holds.ensures c.if-holds.true
    (c.of-none.ensures ∙ c.new.ensures.items) c.ended.ensures.ended

pub cut-requires-clause-sound : goal.cut-requires-clause-sound
cut-requires-clause-sound g c = sound_for g.F.Fn c.args.normal.now c.args.pruner.now.task.now
    c.args.pruner.now.cut c.requires.task c.requires.sound

pub returns-then-cut-clause-ended : goal.returns-then-cut-clause-ended
returns-then-cut-clause-ended g c =
    cut_first g.F.Fn c.args.normal.now c.args.pruner.now.cut c.args.registry.now c.requires.fresh
    c.task-2.result.now c.state.result.now c.state-2.result.now c.holds.result c.cut.result
    c.ended-then-cut.result
    c.task-2.ensures c.state.ensures c.holds.ensures c.if-holds.false c.state-2.ensures c.cut.ensures.answers
    c.if-cut.true c.ended-then-cut.ensures.ended

pub loop-n-init : goal.loop-n-init
loop-n-init g c =
    record {
      way = begins g.F.Fn c.args.normal.now c.args.pruner.now.cut c.args.registry.now c.requires.fresh
          c.task-2.result.now c.state.result.now c.state-2.result.now c.holds.result c.cut.result
          c.task-2.ensures c.state.ensures c.holds.ensures c.if-holds.false c.state-2.ensures
          c.cut.ensures.answers c.if-cut.false;
      cost = λ acyclic. omega arith;
      rise = omega arith;
    }

pub returns-in-Some-clause-ended : goal.returns-in-Some-clause-ended
returns-in-Some-clause-ended g c =
    turn_ends g.F.Fn c.args.normal.now c.args.pruner.now.cut c.args.registry.now c.expand.new.registry
    c.loop-n.n c.expand.new.generated c.in_ok-ended.field-0 c.in-Some.ended c.in-Some.is
    (c.in_ok-ended.ensures.turn c.args.registry.now c.loop-n.invariant.way)

pub loop-n-smaller : goal.loop-n-smaller
loop-n-smaller g c =
    let next = next_turn g.F.Fn c.args.normal.now c.args.pruner.now.cut c.args.registry.now
    c.expand.new.registry c.loop-n.n c.expand.new.generated c.in_ok-ended.field-0 c.in_default.is
    (c.in_ok-ended.ensures.turn c.args.registry.now c.loop-n.invariant.way) in
    nearer g.F.Fn c.args.normal.now c.args.pruner.now.cut c.args.registry.now c.loop-n.registry
    c.expand.new.registry c.loop-n.n c.loop-n.generated c.expand.new.generated
    c.loop-n.invariant.way next c.len.ensures.register
    (let l = c.len.ensures.len in let t = c.loop-n-test.true in omega (arith, l, t))

pub loop-n-preserved : goal.loop-n-preserved
loop-n-preserved g c =
    record {
      way = next_turn g.F.Fn c.args.normal.now c.args.pruner.now.cut c.args.registry.now c.expand.new.registry
          c.loop-n.n c.expand.new.generated c.in_ok-ended.field-0 c.in_default.is
          (c.in_ok-ended.ensures.turn c.args.registry.now c.loop-n.invariant.way);
      cost = λ acyclic. turn_added c.args.normal.now c.loop-n.registry c.expand.new.registry c.loop-n.n _ _ _
          (let e = c.len.ensures.len in let t = c.loop-n-test.true in omega (arith, e, t))
          c.in_ok-ended.ensures.kept
          (c.loop-n.invariant.cost acyclic) (c.in_ok-ended.ensures.cost acyclic);
      rise = (let a = c.loop-n.invariant.rise in let b = c.in_ok-ended.ensures.rise in omega (arith, a, b));
    }

pub returns-clause-ended : goal.returns-clause-ended
returns-clause-ended g c =
    closed g.F.Fn c.args.normal.now c.args.pruner.now.cut c.args.registry.now c.loop-n.registry c.loop-n.n
    c.loop-n.generated c.ended-2.result c.ended-2.ensures.ended c.ended-2.ensures.register
    (λ l. (let e = c.len.ensures.len in let t = c.loop-n-test.false in omega (arith, l, e, t)))
    c.loop-n.invariant.way

pub returns-then-holds-clause-cost : goal.returns-then-holds-clause-cost
returns-then-holds-clause-cost g c = λ acyclic search. omega arith

pub returns-then-cut-clause-cost : goal.returns-then-cut-clause-cost
returns-then-cut-clause-cost g c = λ acyclic search. omega arith

pub returns-in-Some-clause-cost : goal.returns-in-Some-clause-cost
returns-in-Some-clause-cost g c = λ acyclic search.
    within_bound g.F.Fn c.args.normal.now c.args.pruner.now.cut c.args.registry.now c.expand.new.registry
    c.in-Some.ended _ _ (c.loop-n.n + 1)
    (subst (λ end. IfSome end (λ (e : Ended). e.stats.expanded ≡ c.loop-n.n + 1)) c.in-Some.is
    c.in_ok-ended.ensures.counted)
    (turn_added c.args.normal.now c.loop-n.registry c.expand.new.registry c.loop-n.n _ _ _
    (let e = c.len.ensures.len in let t = c.loop-n-test.true in omega (arith, e, t))
    c.in_ok-ended.ensures.kept
    (c.loop-n.invariant.cost acyclic) (c.in_ok-ended.ensures.cost acyclic)) search

pub returns-clause-cost : goal.returns-clause-cost
returns-clause-cost g c = λ acyclic search.
    within_bound g.F.Fn c.args.normal.now c.args.pruner.now.cut c.args.registry.now c.loop-n.registry
    c.ended-2.result _ _ c.loop-n.n
    (ap (λ (e : Ended). e.stats.expanded) c.ended-2.ensures.ended) (c.loop-n.invariant.cost acyclic) search

pub returns-then-holds-clause-least : goal.returns-then-holds-clause-least
returns-then-holds-clause-least g c =
    least_ended g.F.Fn c.args.normal.now c.args.pruner.now.cut c.requires.sound c.args.registry.now
    c.args.registry.now _ (returns-then-holds-clause-ended g c)

pub returns-in-Some-clause-least : goal.returns-in-Some-clause-least
returns-in-Some-clause-least g c =
    least_ended g.F.Fn c.args.normal.now c.args.pruner.now.cut c.requires.sound c.args.registry.now
    c.expand.new.registry c.in-Some.ended (returns-in-Some-clause-ended g c)

pub returns-then-cut-clause-least : goal.returns-then-cut-clause-least
returns-then-cut-clause-least g c =
    least_ended g.F.Fn c.args.normal.now c.args.pruner.now.cut c.requires.sound c.args.registry.now
    c.args.registry.now _ (returns-then-cut-clause-ended g c)

pub returns-clause-least : goal.returns-clause-least
returns-clause-least g c =
    least_ended g.F.Fn c.args.normal.now c.args.pruner.now.cut c.requires.sound c.args.registry.now
    c.loop-n.registry c.ended-2.result (returns-clause-ended g c)
