use Rattle.std.proofs.Common.{rules, ◌≡◌, ◌∙◌, ◌++◌, ◌∷◌, [], length, arith}
use Rattle.std.specs.BinaryHeap.{heap_items}
use Rattle.pl_greedy.specs.Greedy.{IsBrokenOff}
use Rattle.pl_hooks.proofs.Trials.{sound_for, if_err}
use Rattle.pl_greedy.proofs.Whole.{wanting_from, turn_ends, count_fits, found_first, cut_first, begins}
use Rattle.pl_greedy.proofs.Whole.{next_turn, nearer, closed, chosen, some_wait}
use Rattle.pl_greedy.proofs.Bounds.{turn_spent, turn_there, expanded_there, within_bound}
use Rattle.pl_greedy.proofs.searching.greedy.Goals as goal

pub returns-in_err-goal-clause-wanting : goal.returns-in_err-goal-clause-wanting
returns-in_err-goal-clause-wanting g c = wanting_from g.G.Fn c.args.normal.now c.args.pruner.now.cut
    c.args.registry.now c.requires.fresh c.from_residual.result

pub returns-then-holds-clause-ended : goal.returns-then-holds-clause-ended
returns-then-holds-clause-ended g c =
    (found_first g.G.Fn c.args.normal.now c.args.pruner.now.cut c.args.registry.now c.requires.fresh
    c.task-2.result.now c.state.result.now c.holds.result c.of-none.result c.ended.result
    c.task-2.ensures c.state.ensures c.holds.ensures c.if-holds.true
    (c.of-none.ensures ∙ c.new.ensures.items) c.ended.ensures.ended).search

pub cut-requires-clause-sound : goal.cut-requires-clause-sound
cut-requires-clause-sound g c = sound_for g.G.Fn c.args.normal.now c.args.pruner.now.task.now
    c.args.pruner.now.cut c.requires.task c.requires.sound

pub returns-then-cut-clause-ended : goal.returns-then-cut-clause-ended
returns-then-cut-clause-ended g c =
    (cut_first g.G.Fn c.args.normal.now c.args.pruner.now.cut c.args.registry.now c.requires.fresh
    c.task-2.result.now c.state.result.now c.state-2.result.now c.holds.result c.cut.result
    c.ended-then-cut.result
    c.task-2.ensures c.state.ensures c.holds.ensures c.if-holds.false c.state-2.ensures c.cut.ensures.answers
    c.if-cut.true c.ended-then-cut.ensures.ended).search

pub loop-first-init : goal.loop-first-init
loop-first-init g c =
    record {
      way = record {
        past = [];
        between = begins g.G.Fn c.args.normal.now c.args.pruner.now.cut c.args.registry.now c.requires.fresh
            (heap_items c.new-waiting.result) (heap_items c.admit.new.waiting) c.task-3.result.now
            c.task-3.ensures c.new-waiting.ensures.items c.in_ok-admit.ensures
            c.new-waiting.ensures.heap_order
            c.task-2.result.now c.state.result.now c.state-2.result.now c.holds.result c.cut.result
            c.task-2.ensures c.state.ensures c.holds.ensures c.if-holds.false c.state-2.ensures
            c.cut.ensures.answers c.if-cut.false;
        cost = λ acyclic. omega arith;
      };
      rise = omega arith;
    }

pub loop-first-smaller : goal.loop-first-smaller
loop-first-smaller g c =
    let past = c.loop-first.invariant.way.past in
    let take = chosen g.G.Fn c.args.normal.now c.args.pruner.now.cut c.args.registry.now c.loop-first.registry
    past (heap_items c.loop-first.waiting) (heap_items c.pop.new.self) c.in-Some.first c.number.result
    c.loop-first.expanded c.loop-first.generated c.loop-first.invariant.way.between
    c.in-Some.ensures.permutation c.in-Some.ensures.heap_order c.number.ensures in
    let next = next_turn g.G.Fn c.args.normal.now c.args.pruner.now.cut c.args.registry.now
    c.expand.new.registry (past ++ c.number.result ∷ []) (heap_items c.expand.new.waiting)
    c.loop-first.expanded c.expand.new.generated c.in_ok-ended.field-0 c.in_default-2.is
    (c.in_ok-ended.ensures.turn c.args.registry.now past take) in
    nearer g.G.Fn c.args.normal.now c.args.pruner.now.cut c.args.registry.now c.loop-first.registry
    c.expand.new.registry past (past ++ c.number.result ∷ [])
    (heap_items c.loop-first.waiting) (heap_items c.expand.new.waiting) c.loop-first.expanded
    c.loop-first.generated c.expand.new.generated
    c.loop-first.invariant.way.between next c.len-states.ensures.register
    (some_wait (heap_items c.loop-first.waiting) (heap_items c.pop.new.self) c.in-Some.first
    c.in-Some.ensures.permutation)

pub loop-first-preserved : goal.loop-first-preserved
loop-first-preserved g c =
    let past = c.loop-first.invariant.way.past in
    let take = chosen g.G.Fn c.args.normal.now c.args.pruner.now.cut c.args.registry.now c.loop-first.registry
    past (heap_items c.loop-first.waiting) (heap_items c.pop.new.self) c.in-Some.first c.number.result
    c.loop-first.expanded c.loop-first.generated c.loop-first.invariant.way.between
    c.in-Some.ensures.permutation c.in-Some.ensures.heap_order c.number.ensures in
    record {
      way = record {
        past = past ++ c.number.result ∷ [];
        between = next_turn g.G.Fn c.args.normal.now c.args.pruner.now.cut c.args.registry.now
            c.expand.new.registry (past ++ c.number.result ∷ []) (heap_items c.expand.new.waiting)
            c.loop-first.expanded c.expand.new.generated c.in_ok-ended.field-0 c.in_default-2.is
            (c.in_ok-ended.ensures.turn c.args.registry.now past take);
        cost = λ acyclic. turn_spent g.G.Fn c.args.normal.now c.args.pruner.now.cut c.args.registry.now
            c.loop-first.registry c.expand.new.registry past (heap_items c.pop.new.self) c.number.result
            c.loop-first.expanded c.loop-first.generated _ _ _ take c.in_ok-ended.ensures.kept
            (c.loop-first.invariant.way.cost acyclic) (c.in_ok-ended.ensures.cost acyclic);
      };
      rise = (let a = c.loop-first.invariant.rise in let b = c.in_ok-ended.ensures.rise in
          omega (arith, a, b));
    }

pub expand-requires-clause-way : goal.expand-requires-clause-way
expand-requires-clause-way g c = (
  c.args.registry.now,
  c.loop-first.invariant.way.past,
  chosen g.G.Fn c.args.normal.now c.args.pruner.now.cut c.args.registry.now c.loop-first.registry
      c.loop-first.invariant.way.past (heap_items c.loop-first.waiting) (heap_items c.pop.new.self)
      c.in-Some.first c.number.result c.loop-first.expanded c.loop-first.generated
      c.loop-first.invariant.way.between c.in-Some.ensures.permutation c.in-Some.ensures.heap_order
      c.number.ensures,
)

pub expand-requires-clause-number : goal.expand-requires-clause-number
expand-requires-clause-number g c =
    (chosen g.G.Fn c.args.normal.now c.args.pruner.now.cut c.args.registry.now c.loop-first.registry
    c.loop-first.invariant.way.past (heap_items c.loop-first.waiting) (heap_items c.pop.new.self)
    c.in-Some.first c.number.result c.loop-first.expanded c.loop-first.generated
    c.loop-first.invariant.way.between c.in-Some.ensures.permutation c.in-Some.ensures.heap_order
    c.number.ensures).there

pub returns-clause-ended : goal.returns-clause-ended
returns-clause-ended g c =
    let none : length (heap_items c.loop-first.waiting) ≡ 0 = search rules in
    (closed g.G.Fn c.args.normal.now c.args.pruner.now.cut c.args.registry.now c.loop-first.registry
    c.loop-first.invariant.way.past (heap_items c.loop-first.waiting) c.loop-first.expanded
    c.loop-first.generated c.ended-2.result c.ended-2.ensures.ended c.ended-2.ensures.register none
    c.loop-first.invariant.way.between).search

pub returns-in_err-admit-clause-wanting : goal.returns-in_err-admit-clause-wanting
returns-in_err-admit-clause-wanting g c = wanting_from g.G.Fn c.args.normal.now c.args.pruner.now.cut
    c.args.registry.now c.requires.fresh c.from_residual-in_err-admit.result

pub returns-in_err-ended-clause-wanting : goal.returns-in_err-ended-clause-wanting
returns-in_err-ended-clause-wanting g c =
    let past = c.loop-first.invariant.way.past in
    if_err c.from_residual-in_err-ended.result
    (IsBrokenOff g.G.Fn c.args.normal.now c.args.pruner.now.cut c.args.registry.now c.expand.new.registry)
    (c.in_err-ended.ensures.turn c.args.registry.now past
    (chosen g.G.Fn c.args.normal.now c.args.pruner.now.cut c.args.registry.now c.loop-first.registry past
    (heap_items c.loop-first.waiting) (heap_items c.pop.new.self) c.in-Some.first c.number.result
    c.loop-first.expanded c.loop-first.generated c.loop-first.invariant.way.between
    c.in-Some.ensures.permutation c.in-Some.ensures.heap_order c.number.ensures))

pub returns-in-Some-2-clause-ended : goal.returns-in-Some-2-clause-ended
returns-in-Some-2-clause-ended g c =
    let past = c.loop-first.invariant.way.past in
    (turn_ends g.G.Fn c.args.normal.now c.args.pruner.now.cut c.args.registry.now c.expand.new.registry
    (past ++ c.number.result ∷ []) (heap_items c.expand.new.waiting) c.loop-first.expanded
    c.expand.new.generated c.in_ok-ended.field-0 c.in-Some-2.ended c.in-Some-2.is
    (c.in_ok-ended.ensures.turn c.args.registry.now past
    (chosen g.G.Fn c.args.normal.now c.args.pruner.now.cut c.args.registry.now c.loop-first.registry past
    (heap_items c.loop-first.waiting) (heap_items c.pop.new.self) c.in-Some.first c.number.result
    c.loop-first.expanded c.loop-first.generated c.loop-first.invariant.way.between
    c.in-Some.ensures.permutation c.in-Some.ensures.heap_order c.number.ensures))).search

pub overflow_add-expanded : goal.overflow_add-expanded
overflow_add-expanded g c =
    let fits = count_fits g.G.Fn c.args.normal.now c.args.pruner.now.cut c.args.registry.now
    c.loop-first.registry c.loop-first.invariant.way.past (heap_items c.loop-first.waiting)
    c.loop-first.expanded c.loop-first.generated c.loop-first.invariant.way.between
    c.len-states.ensures.register
    (some_wait (heap_items c.loop-first.waiting) (heap_items c.pop.new.self) c.in-Some.first
    c.in-Some.ensures.permutation) in
    omega (arith, fits)

pub returns-then-holds-clause-cost : goal.returns-then-holds-clause-cost
returns-then-holds-clause-cost g c = λ acyclic found. omega arith

pub returns-then-cut-clause-cost : goal.returns-then-cut-clause-cost
returns-then-cut-clause-cost g c = λ acyclic found. omega arith

pub returns-in-Some-2-clause-cost : goal.returns-in-Some-2-clause-cost
returns-in-Some-2-clause-cost g c = λ acyclic found.
    let past = c.loop-first.invariant.way.past in
    let take = chosen g.G.Fn c.args.normal.now c.args.pruner.now.cut c.args.registry.now c.loop-first.registry
    past (heap_items c.loop-first.waiting) (heap_items c.pop.new.self) c.in-Some.first c.number.result
    c.loop-first.expanded c.loop-first.generated c.loop-first.invariant.way.between
    c.in-Some.ensures.permutation c.in-Some.ensures.heap_order c.number.ensures in
    within_bound g.G.Fn c.args.normal.now c.args.pruner.now.cut c.args.registry.now c.expand.new.registry
    (past ++ c.number.result ∷ []) c.in-Some-2.ended _ _ c.requires.sound
    (turn_ends g.G.Fn c.args.normal.now c.args.pruner.now.cut c.args.registry.now c.expand.new.registry
    (past ++ c.number.result ∷ []) (heap_items c.expand.new.waiting) c.loop-first.expanded
    c.expand.new.generated c.in_ok-ended.field-0 c.in-Some-2.ended c.in-Some-2.is
    (c.in_ok-ended.ensures.turn c.args.registry.now past take))
    (turn_there g.G.Fn c.args.normal.now c.args.pruner.now.cut c.args.registry.now c.loop-first.registry
    c.expand.new.registry past (heap_items c.pop.new.self) c.number.result
    c.loop-first.expanded c.loop-first.generated take c.in_ok-ended.ensures.kept)
    (turn_spent g.G.Fn c.args.normal.now c.args.pruner.now.cut c.args.registry.now c.loop-first.registry
    c.expand.new.registry past (heap_items c.pop.new.self) c.number.result
    c.loop-first.expanded c.loop-first.generated _ _ _ take c.in_ok-ended.ensures.kept
    (c.loop-first.invariant.way.cost acyclic) (c.in_ok-ended.ensures.cost acyclic))
    found

pub returns-clause-cost : goal.returns-clause-cost
returns-clause-cost g c = λ acyclic found.
    let none : length (heap_items c.loop-first.waiting) ≡ 0 = search rules in
    within_bound g.G.Fn c.args.normal.now c.args.pruner.now.cut c.args.registry.now c.loop-first.registry
    c.loop-first.invariant.way.past c.ended-2.result _ _ c.requires.sound
    (closed g.G.Fn c.args.normal.now c.args.pruner.now.cut c.args.registry.now c.loop-first.registry
    c.loop-first.invariant.way.past (heap_items c.loop-first.waiting) c.loop-first.expanded
    c.loop-first.generated c.ended-2.result c.ended-2.ensures.ended c.ended-2.ensures.register none
    c.loop-first.invariant.way.between)
    (expanded_there g.G.Fn c.args.normal.now c.args.pruner.now.cut c.args.registry.now c.loop-first.registry
    c.loop-first.invariant.way.past (heap_items c.loop-first.waiting)
    c.loop-first.expanded c.loop-first.generated c.loop-first.invariant.way.between)
    (c.loop-first.invariant.way.cost acyclic) found
