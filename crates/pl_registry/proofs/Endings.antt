-- What the endings of searches of a task say of its plans. What may be dropped and what kept is any relation
-- here.
use Rattle.std.proofs.Common.{◌≡◌, ◌≢◌, ◌+◌, ◌≤◌, ℕ, List, [], ◌∷◌, length, All, AllPairs, refl, sym, ap, ◌∙◌}
use Rattle.std.proofs.Common.{subst, inl, inr, arith}
use Rattle.std.specs.Cmp.{IsTotalOrder}
use Rattle.std.specs.declared.cmp.Ordering.TheVariants.{Less}
use Rattle.std.proofs.lemmas.List.Elements.{All-weaker}
use Rattle.pl_task.specs.declared.task.Task.{Task}
use Rattle.pl_task.specs.Instance.{Instance}
use Rattle.pl_task.specs.States.{State, result_of, initial}
use Rattle.pl_task.specs.Plans.{Executes, IsPlan, IsReachable}
use Rattle.pl_normal.specs.StepOrder.{step_cmp}
use Rattle.pl_normal.proofs.Listing.{step_order_total, applicable_listed, applicable_ascend}
use Rattle.pl_registry.specs.declared.ended.Stats.{Stats}
use Rattle.pl_registry.specs.StateSpace.{LeadsTo, space_of}
use Rattle.pl_registry.specs.SearchRecord.{SearchRecord}
use Rattle.pl_registry.specs.Cut.{IsDeadEnd, ReachesNoGoal}
use Rattle.pl_registry.specs.Ending.{IsEnding, IsWidthEnding, by_number}
use Rattle.pl_registry.specs.Ending.Ending.{Found, Unsolvable, Limit}
use Rattle.pl_registry.proofs.Plans.{found_leads, closed_dead, known_dead, full_reached}
use Rattle.pl_registry.specs.LeastPlan.{plan_cmp, IsLeastPlan}
use Rattle.pl_registry.proofs.Shortest.{none_shorter}
use Rattle.pl_registry.proofs.PlanOrder.{before_is_less}
use Rattle.pl_registry.proofs.Least.{found_first}

-- steps lead in the state space of a task where they are executed, and the other way round
pub executed : (task : Task) (s last : State) (steps : List Instance) → LeadsTo (space_of task) s steps last
    → Executes task s steps last
executed task s last [] h = h
executed task s last (step ∷ steps) h =
    ((applicable_listed task s step).0 h.0, executed task (result_of task s step) last steps h.1)

pub led : (task : Task) (s last : State) (steps : List Instance) → Executes task s steps last
    → LeadsTo (space_of task) s steps last
led task s last [] h = h
led task s last (step ∷ steps) h =
    ((applicable_listed task s step).1 h.0, led task (result_of task s step) last steps h.1)

pub dead_end : (task : Task) (s : State) → ReachesNoGoal task s → IsDeadEnd (space_of task) s
dead_end task s none steps last leads goal = none steps last (executed task s last steps leads) goal

module _ (task : Task) (D K : State → Type 0) (rank : State → ℕ) (limit : ℕ) (r : SearchRecord)
    (stats : Stats) where
  pub found_is_plan : (plan : List Instance) → IsEnding (space_of task) D K rank limit r (Found plan) stats
      → IsPlan task plan
  found_is_plan plan (inl (goal, empty, _)) =
      (initial task, subst (λ p. Executes task (initial task) p (initial task)) (sym empty) refl, goal)
  found_is_plan plan (inr (under_way, found)) =
      let (last, leads, goal) = found_leads under_way.1.stands found in
      (last, executed task (initial task) last plan leads, goal)

  pub unsolvable_has_no_plan : ((s : State) → D s → ReachesNoGoal task s)
      → IsEnding (space_of task) D K rank limit r Unsolvable stats →
      (steps : List Instance) → IsPlan task steps → ⊥
  unsolvable_has_no_plan sound (inl (_, cut, _)) steps (last, runs, goal) =
      sound (initial task) cut steps last runs goal
  unsolvable_has_no_plan sound (inr (under_way, closed)) steps (last, runs, goal) =
      closed_dead under_way.1.stands {stats = stats} (λ seen s dropped. dead_end task s (sound s dropped))
      under_way.1.no_goal closed steps last
      (led task (initial task) last steps runs) goal

  pub limit_is_passed : IsEnding (space_of task) D K rank limit r Limit stats →
      (states : List State) × (length states ≡ limit + 1) × AllPairs (λ (s t : State). s ≢ t) states
      × All (IsReachable task) states
  limit_is_passed (under_way, full) =
      let (states, many, differ, reached) = full_reached under_way.1.stands full in (
        states,
        omega (arith, many),
        differ,
        All-weaker (λ s. (steps : List Instance) × LeadsTo (space_of task) (initial task) steps s)
            (IsReachable task)
            (λ s (steps, leads). (steps, executed task (initial task) s steps leads)) states reached,
      )

pub none_is_shorter : (task : Task) (D K : State → Type 0) (limit : ℕ) (r : SearchRecord)
    (plan : List Instance) (stats : Stats) →
    ((s : State) → D s → ReachesNoGoal task s) → IsEnding (space_of task) D K by_number limit r
    (Found plan) stats →
    (steps : List Instance) → IsPlan task steps → length plan ≤ length steps
none_is_shorter task D K limit r plan stats sound (inl (_, empty, _)) steps is = let none = ap length empty in
    omega (arith, none)
none_is_shorter task D K limit r plan stats sound (inr (under_way, found)) steps (last, runs, goal) =
    none_shorter under_way.1.stands {stats = stats} (λ seen s dropped. dead_end task s (sound s dropped))
    under_way.1.no_goal found steps last
    (led task (initial task) last steps runs) goal

-- the plan found is the least one
pub found_is_least : (task : Task) (D K : State → Type 0) (limit : ℕ) (r : SearchRecord)
    (plan : List Instance)
    (stats : Stats) → ((s : State) → D s → ReachesNoGoal task s) →
    IsEnding (space_of task) D K by_number limit r (Found plan) stats → IsLeastPlan task plan
found_is_least task D K limit r plan stats sound ending =
    record {
      is_plan = found_is_plan task D K by_number limit r stats plan ending;
      shortest = none_is_shorter task D K limit r plan stats sound ending;
      first = first ending;
    }
  where
    no_steps : (steps : List Instance) → length steps ≡ 0 → steps ≡ []
    no_steps [] none = refl
    no_steps (a ∷ steps) none = absurd (omega (arith, none))

    total : IsTotalOrder (step_cmp task)
    total = step_order_total task

    first : IsEnding (space_of task) D K by_number limit r (Found plan) stats → (steps : List Instance) →
        IsPlan task steps → length steps ≡ length plan → steps ≢ plan → plan_cmp task plan steps ≡ Less
    first (inl (_, empty, _)) steps is many other =
        absurd (other (no_steps steps (many ∙ ap length empty) ∙ sym empty))
    first (inr (under_way, found)) steps (last, runs, goal) many other =
        let s = under_way.1.stands in
        let leads = led task (initial task) last steps runs in
        elim (found_first s (step_cmp task) total (applicable_ascend task) {stats = stats}
        (λ seen s dropped. dead_end task s (sound s dropped)) under_way.1.no_goal found steps last leads goal
        many) [
          | inl same ↦ absurd (other (sym same))
          | inr before ↦ before_is_less (step_cmp task) total plan steps before
        ]

module _ (task : Task) (k limit : ℕ) (r : SearchRecord) (stats : Stats) where
  pub width_found_is_plan : (plan : List Instance) → IsWidthEnding (space_of task) task k limit r
      (Found plan) stats → IsPlan task plan
  width_found_is_plan plan (inl (goal, empty, _)) =
      (initial task, subst (λ p. Executes task (initial task) p (initial task)) (sym empty) refl, goal)
  width_found_is_plan plan (inr (under_way, found)) =
      let (last, leads, goal) = found_leads under_way.stands found in
      (last, executed task (initial task) last plan leads, goal)

  pub width_limit_is_passed : IsWidthEnding (space_of task) task k limit r Limit stats →
      (states : List State) × (length states ≡ limit + 1) × AllPairs (λ (s t : State). s ≢ t) states
      × All (IsReachable task) states
  width_limit_is_passed (under_way, full) =
      let (states, many, differ, reached) = full_reached under_way.stands full in (
        states,
        omega (arith, many),
        differ,
        All-weaker (λ s. (steps : List Instance) × LeadsTo (space_of task) (initial task) steps s)
            (IsReachable task)
            (λ s (steps, leads). (steps, executed task (initial task) s steps leads)) states reached,
      )

  pub width_unsolvable_has_no_plan : IsWidthEnding (space_of task) task k limit r Unsolvable stats
      → (steps : List Instance) → IsPlan task steps → ⊥
  width_unsolvable_has_no_plan (under_way, closed, known) steps (last, runs, goal) =
      known_dead under_way.stands {stats = stats} known under_way.no_goal closed steps last
      (led task (initial task) last steps runs) goal
