use Rattle.std.proofs.Common.{◌≡◌, ◌+◌, ◌<◌, ◌≤◌, List, length, take, not, count_by, ap, subst}
use Rattle.std.proofs.Common.{◌∙◌}
use Rattle.std.proofs.Common.{arith}
use Rattle.std.proofs.lemmas.List.{take_all, length-take}
use Rattle.std.proofs.lemmas.List.Sums.{count_by-le-length}
use Rattle.pl_task.specs.declared.data.GoalLiteral.{GoalLiteral}
use Rattle.pl_task.specs.Goal.{is_goal_met}
use Rattle.pl_state.specs.StateOf.{state_in}
use Rattle.pl_state.specs.Decided.{DecidedGoal}
use Rattle.pl_state.proofs.Decidings.{unmet_split, open_literal, room_for}
use Rattle.pl_state.proofs.goal_test.GoalTest.unmet.Goals as goal

pub is_met-requires-clause-atom : goal.is_met-requires-clause-atom
is_met-requires-clause-atom c =
    (open_literal c.args.task.now c.deref-literal-items.result.now _ c.loop-literal.literal-index _ _
    (c.deref-literal-items.ensures.value ∙ ap (λ (v : DecidedGoal). v.literals) c.self.view_is)
    c.requires.goal.literals_are c.loop-literal-test.true c.literal-item.is).0

pub is_met-requires-clause-fluent : goal.is_met-requires-clause-fluent
is_met-requires-clause-fluent c =
    (open_literal c.args.task.now c.deref-literal-items.result.now _ c.loop-literal.literal-index _ _
    (c.deref-literal-items.ensures.value ∙ ap (λ (v : DecidedGoal). v.literals) c.self.view_is)
    c.requires.goal.literals_are c.loop-literal-test.true c.literal-item.is).1

pub overflow_add-count : goal.overflow_add-count
overflow_add-count c =
    let same : c.deref-literal-items.result.now ≡ c.args.self.now.literals =
    c.deref-literal-items.ensures.value ∙ ap (λ (v : DecidedGoal). v.literals) c.self.view_is in
    let within : c.loop-literal.literal-index < length c.args.self.now.literals =
    subst (λ (l : List GoalLiteral). c.loop-literal.literal-index < length l) same
    c.loop-literal-test.true in
    let room = room_for c.args.task.now c.args.self.now.literals c.args.self.now.missed
    c.requires.goal.missed_are c.requires.goal.literals_are in
    let most = count_by-le-length
    (λ (g : GoalLiteral). not (is_goal_met (state_in c.args.task.now c.args.state.now) g))
    (take c.loop-literal.literal-index c.args.self.now.literals) in
    let size = length-take c.loop-literal.literal-index c.args.self.now.literals in
    omega (arith, c.loop-literal.invariant)

pub returns : goal.returns
returns c =
    let same : c.deref-literal-items.result.now ≡ c.args.self.now.literals =
    c.deref-literal-items.ensures.value ∙ ap (λ (v : DecidedGoal). v.literals) c.self.view_is in
    let past : length c.args.self.now.literals ≤ c.loop-literal.literal-index =
    subst (λ (l : List GoalLiteral). length l ≤ c.loop-literal.literal-index) same
    c.loop-literal-test.false in
    unmet_split c.args.task.now c.args.state.now c.args.self.now.literals c.args.self.now.missed
    c.loop-literal.count c.requires.goal.missed_are c.requires.goal.literals_are
    (c.loop-literal.invariant ∙
    ap (λ l. c.args.self.now.missed + count_by
    (λ (g : GoalLiteral). not (is_goal_met (state_in c.args.task.now c.args.state.now) g)) l)
    (take_all c.loop-literal.literal-index c.args.self.now.literals past))
