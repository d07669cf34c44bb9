-- A task has at most one least plan.
use Rattle.std.proofs.Common.{◌≡◌, ◌≢◌, List, [], ◌∷◌, length, refl, sym, ap, ◌∙◌, arith}
use Rattle.std.specs.Cmp.{IsTotalOrder}
use Rattle.std.specs.declared.cmp.Ordering.{Ordering}
use Rattle.std.specs.declared.cmp.Ordering.TheVariants.{Less, Equal, Greater}
use Rattle.std.specs.Ordering.{ordering_then, ordering_reverse}
use Rattle.std.proofs.lemmas.Cmp.{lists_total, tied_itself}
use Rattle.pl_task.specs.declared.task.Task.{Task}
use Rattle.pl_task.specs.Instance.{Instance}
use Rattle.pl_task.specs.Plans.{Executes, IsPlan}
use Rattle.pl_task.specs.States.{State, IsStep, initial, result_of}
use Rattle.pl_task.proofs.TypeLemmas.{applicable_step}
use Rattle.pl_normal.specs.StepOrder.{step_cmp}
use Rattle.pl_normal.proofs.Listing.{step_order_total, steps_tie_nowhere}
use Rattle.pl_registry.specs.LeastPlan.{plan_cmp, IsLeastPlan}

-- each element of a list is a step of the task
abbrev AreSteps : Task → List Instance → Type 0
AreSteps task [] = Unit {0}
AreSteps task (step ∷ steps) = IsStep task step × AreSteps task steps

executed_are : (task : Task) (s last : State) (steps : List Instance) → Executes task s steps last →
    AreSteps task steps
executed_are task s last [] h = tt
executed_are task s last (step ∷ steps) h =
    (applicable_step task s step h.0, executed_are task (result_of task s step) last steps h.1)

plan_steps : (task : Task) (plan : List Instance) → IsPlan task plan → AreSteps task plan
plan_steps task plan (last, runs, goal) = executed_are task (initial task) last plan runs

both_equal : (a b : Ordering) → ordering_then a b ≡ Equal → (a ≡ Equal) × (b ≡ Equal)
both_equal Less b h = absurd (cc h)
both_equal Equal b h = (refl, h)
both_equal Greater b h = absurd (cc h)

-- lists of steps that tie are one list
tied_same : (task : Task) (xs ys : List Instance) → AreSteps task xs → AreSteps task ys →
    plan_cmp task xs ys ≡ Equal → xs ≡ ys
tied_same task [] [] p q h = refl
tied_same task [] (y ∷ ys) p q h = absurd (cc h)
tied_same task (x ∷ xs) [] p q h = absurd (cc h)
tied_same task (x ∷ xs) (y ∷ ys) p q h =
    let parts = both_equal (step_cmp task x y) (plan_cmp task xs ys) h in
    let first : x ≡ y = steps_tie_nowhere task x y p.0 q.0 parts.0 in
    let rest : xs ≡ ys = tied_same task xs ys p.1 q.1 parts.1 in
    λ i. first i ∷ rest i

pub one_least : (task : Task) (plan other : List Instance) → IsLeastPlan task plan →
    IsLeastPlan task other → plan ≡ other
one_least task plan other a b = by_order (plan_cmp task plan other) refl
  where
    total : IsTotalOrder (plan_cmp task)
    total = lists_total (step_order_total task)

    many : length plan ≡ length other
    many = (let l = a.shortest other b.is_plan in let m = b.shortest plan a.is_plan in omega (arith, l, m))

    turned : (plan_cmp task plan other) ≡ ordering_reverse (plan_cmp task other plan)
    turned = total.antisymm plan other

    less_greater : (o : Ordering) → o ≡ Less → o ≡ Greater → ⊥
    less_greater o less greater = cc (less, greater)

    less_equal : (o : Ordering) → o ≡ Less → o ≡ Equal → ⊥
    less_equal o less equal = cc (less, equal)

    greater_equal : (o : Ordering) → o ≡ Greater → o ≡ Equal → ⊥
    greater_equal o greater equal = cc (greater, equal)

    by_order : (o : Ordering) → plan_cmp task plan other ≡ o → plan ≡ other
    by_order Equal is = tied_same task plan other (plan_steps task plan a.is_plan)
        (plan_steps task other b.is_plan) is
    by_order Less is =
        absurd (less_greater (plan_cmp task plan other) is
        (turned ∙ ap ordering_reverse (b.first plan a.is_plan many differ)))
      where
        differ : plan ≢ other
        differ same = less_equal (plan_cmp task plan other) is
            (ap (plan_cmp task plan) (sym same) ∙ tied_itself total plan)
    by_order Greater is =
        absurd (less_greater (plan_cmp task plan other) (a.first other b.is_plan (sym many) differ) is)
      where
        differ : other ≢ plan
        differ same = greater_equal (plan_cmp task plan other) is
            (ap (plan_cmp task plan) same ∙ tied_itself total plan)
