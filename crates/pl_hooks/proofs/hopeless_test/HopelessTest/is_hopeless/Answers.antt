use Rattle.std.proofs.Common.{◌≡◌, ◌<◌, ◌≤◌, ℕ, List, length, get_or, sym, ap, subst, ◌∙◌}
use Rattle.pl_task.specs.declared.data.GoalLiteral.{GoalLiteral}
use Rattle.pl_state.specs.StateOf.{state_in}
use Rattle.pl_hooks.specs.Fixed.{FixedGoal, IsHeldAt}
use Rattle.pl_hooks.proofs.Fixings.{first_more}
use Rattle.pl_hooks.proofs.StuckLemmas.{IsMetAt, number_at, held_at, held_within, held_well, held_fluent}
use Rattle.pl_hooks.proofs.StuckLemmas.{met_at, lost_hopeless, missed_hopeless, kept}
use Rattle.pl_hooks.proofs.hopeless_test.HopelessTest.is_hopeless.Goals as goal

pub returns-then-self : goal.returns-then-self
returns-then-self c = lost_hopeless c.args.task.now c.args.state.now c.args.self.now c.self.inside.lost
    c.requires.goal (sym (ap (λ (v : FixedGoal). v.lost) c.self.view_is)) c.if-self.true

pub bounds-goal-number : goal.bounds-goal-number
bounds-goal-number c =
    let are : c.deref-number-items.result.now ≡ c.args.self.now.fixed = c.deref-number-items.ensures.value
    ∙ ap (λ (v : FixedGoal). v.fixed) c.self.view_is in
    let n : ℕ = get_or c.deref-number-items.result.now c.loop-number.number-index 0 in
    let held : IsHeldAt c.args.task.now n = held_at c.args.task.now c.args.self.now
    c.deref-number-items.result.now c.loop-number.number-index c.requires.goal are
    c.loop-number-test.true in
    subst (λ (gs : List GoalLiteral). n < length gs) (sym c.as_slice-goal.ensures)
    (held_within c.args.task.now n held)

pub is_met-requires-clause-atom : goal.is_met-requires-clause-atom
is_met-requires-clause-atom c =
    let are : c.deref-number-items.result.now ≡ c.args.self.now.fixed = c.deref-number-items.ensures.value
    ∙ ap (λ (v : FixedGoal). v.fixed) c.self.view_is in
    let n : ℕ = get_or c.deref-number-items.result.now c.loop-number.number-index 0 in
    let held : IsHeldAt c.args.task.now n = held_at c.args.task.now c.args.self.now
    c.deref-number-items.result.now c.loop-number.number-index c.requires.goal are
    c.loop-number-test.true in
    held_well c.args.task.now n c.index-goal-number.result held
    (c.index-goal-number.is ∙ ap (λ (gs : List GoalLiteral). get_or gs n c.index-goal-number.result)
    c.as_slice-goal.ensures)

pub is_met-requires-clause-fluent : goal.is_met-requires-clause-fluent
is_met-requires-clause-fluent c =
    let are : c.deref-number-items.result.now ≡ c.args.self.now.fixed = c.deref-number-items.ensures.value
    ∙ ap (λ (v : FixedGoal). v.fixed) c.self.view_is in
    let n : ℕ = get_or c.deref-number-items.result.now c.loop-number.number-index 0 in
    let held : IsHeldAt c.args.task.now n = held_at c.args.task.now c.args.self.now
    c.deref-number-items.result.now c.loop-number.number-index c.requires.goal are
    c.loop-number-test.true in
    held_fluent c.args.task.now n c.index-goal-number.result held
    (c.index-goal-number.is ∙ ap (λ (gs : List GoalLiteral). get_or gs n c.index-goal-number.result)
    c.as_slice-goal.ensures)

pub returns-then-not-is_met : goal.returns-then-not-is_met
returns-then-not-is_met c =
    let are : c.deref-number-items.result.now ≡ c.args.self.now.fixed = c.deref-number-items.ensures.value
    ∙ ap (λ (v : FixedGoal). v.fixed) c.self.view_is in
    let n : ℕ = get_or c.deref-number-items.result.now c.loop-number.number-index 0 in
    let held : IsHeldAt c.args.task.now n = held_at c.args.task.now c.args.self.now
    c.deref-number-items.result.now c.loop-number.number-index c.requires.goal are
    c.loop-number-test.true in
    missed_hopeless c.args.task.now (state_in c.args.task.now c.args.state.now) n c.index-goal-number.result
    c.is_met.result held
    (c.index-goal-number.is ∙ ap (λ (gs : List GoalLiteral). get_or gs n c.index-goal-number.result)
    c.as_slice-goal.ensures) c.is_met.ensures c.if-not-is_met.true

pub loop-number-preserved : goal.loop-number-preserved
loop-number-preserved c =
    let are : c.deref-number-items.result.now ≡ c.args.self.now.fixed = c.deref-number-items.ensures.value
    ∙ ap (λ (v : FixedGoal). v.fixed) c.self.view_is in
    let n : ℕ = get_or c.deref-number-items.result.now c.loop-number.number-index 0 in
    first_more (IsMetAt c.args.task.now (state_in c.args.task.now c.args.state.now)) c.args.self.now.fixed
    c.loop-number.number-index n
    (subst (λ (l : List ℕ). n ≡ get_or l c.loop-number.number-index n) are
    (number_at c.deref-number-items.result.now c.loop-number.number-index c.loop-number-test.true))
    c.loop-number.invariant
    (met_at c.args.task.now (state_in c.args.task.now c.args.state.now) n c.index-goal-number.result
    c.is_met.result
    (c.index-goal-number.is ∙ ap (λ (gs : List GoalLiteral). get_or gs n c.index-goal-number.result)
    c.as_slice-goal.ensures) c.is_met.ensures c.if-not-is_met.false)

pub returns : goal.returns
returns c =
    let are : c.deref-number-items.result.now ≡ c.args.self.now.fixed = c.deref-number-items.ensures.value
    ∙ ap (λ (v : FixedGoal). v.fixed) c.self.view_is in
    let past : length c.args.self.now.fixed ≤ c.loop-number.number-index =
    subst (λ (l : List ℕ). length l ≤ c.loop-number.number-index) are c.loop-number-test.false in
    kept c.args.task.now c.args.state.now c.args.self.now c.self.inside.lost c.loop-number.number-index
    c.requires.goal (sym (ap (λ (v : FixedGoal). v.lost) c.self.view_is)) c.if-self.false past
    c.loop-number.invariant
