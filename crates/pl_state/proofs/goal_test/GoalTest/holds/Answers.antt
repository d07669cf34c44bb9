use Rattle.std.proofs.Common.{◌≡◌, ◌<◌, ◌≤◌, List, length, false, sym, ap, subst, ◌∙◌, arith}
use Rattle.std.specs.List.{filter, list_all}
use Rattle.std.proofs.lemmas.List.{take_all}
use Rattle.std.proofs.lemmas.List.Folds.{list_all_at}
use Rattle.pl_task.specs.declared.data.GoalLiteral.{GoalLiteral}
use Rattle.pl_task.specs.Goal.{is_goal_met}
use Rattle.pl_state.specs.StateOf.{state_in}
use Rattle.pl_state.specs.Decided.{DecidedGoal, is_open}
use Rattle.pl_state.proofs.Decidings.{goal_missed, goal_unmet, goal_met, open_literal}
use Rattle.pl_state.proofs.goal_test.GoalTest.holds.Goals as goal

pub returns-then-self-gt0 : goal.returns-then-self-gt0
returns-then-self-gt0 c =
    goal_missed c.args.task.now c.args.state.now c.args.self.now.literals c.args.self.now.missed
    c.requires.goal.missed_are
    (subst (λ n. 0 < n) (ap (λ (v : DecidedGoal). v.missed) c.self.view_is) c.if-self-gt0.true)

pub is_met-requires-clause-atom : goal.is_met-requires-clause-atom
is_met-requires-clause-atom c =
    (open_literal c.args.task.now c.deref-literal-items.result.now _ c.loop-literal.literal-index _ _
    (c.deref-literal-items.ensures.value ∙ ap (λ (v : DecidedGoal). v.literals) c.self.view_is)
    c.requires.goal.literals_are c.loop-literal-test.true c.literal-item.is).0

pub is_met-requires-clause-fluent : goal.is_met-requires-clause-fluent
is_met-requires-clause-fluent c =
    (open_literal c.args.task.now c.deref-literal-items.result.now _ c.loop-literal.literal-index _ _
    (c.deref-literal-items.ensures.value ∙ ap (λ (v : DecidedGoal). v.literals) c.self.view_is)
    c.requires.goal.literals_are c.loop-literal-test.true c.literal-item.is).1

pub returns-then-not-is_met : goal.returns-then-not-is_met
returns-then-not-is_met c =
    let are : c.deref-literal-items.result.now ≡ filter (is_open c.args.task.now) c.args.task.now.goal =
    c.deref-literal-items.ensures.value ∙ ap (λ (v : DecidedGoal). v.literals) c.self.view_is ∙
    c.requires.goal.literals_are in
    goal_unmet c.args.task.now c.args.state.now c.deref-literal-items.result.now are
    (list_all_at (is_goal_met (state_in c.args.task.now c.args.state.now)) c.deref-literal-items.result.now
    c.loop-literal.literal-index c.literal-item.result c.loop-literal-test.true
    (subst (λ (g : GoalLiteral). is_goal_met (state_in c.args.task.now c.args.state.now) g ≡ false)
    c.literal-item.is (sym c.is_met.ensures ∙ c.if-not-is_met.true)))

pub returns : goal.returns
returns c =
    let same : c.deref-literal-items.result.now ≡ c.args.self.now.literals =
    c.deref-literal-items.ensures.value ∙ ap (λ (v : DecidedGoal). v.literals) c.self.view_is in
    let past : length c.args.self.now.literals ≤ c.loop-literal.literal-index =
    subst (λ (l : List GoalLiteral). length l ≤ c.loop-literal.literal-index) same
    c.loop-literal-test.false in
    let few : c.args.self.now.missed ≤ 0 =
    subst (λ n. n ≤ 0) (ap (λ (v : DecidedGoal). v.missed) c.self.view_is) c.if-self-gt0.false in
    goal_met c.args.task.now c.args.state.now c.args.self.now.literals c.args.self.now.missed
    c.requires.goal.missed_are (omega arith) c.requires.goal.literals_are
    (ap (list_all (is_goal_met (state_in c.args.task.now c.args.state.now)))
    (sym (take_all c.loop-literal.literal-index c.args.self.now.literals past)) ∙
    c.loop-literal.invariant)
