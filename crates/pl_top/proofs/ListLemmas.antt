-- The steps of a list are steps of the task.
use Rattle.std.proofs.Common.{◌≡◌, List, filter, get_or, All, Contains, refl, sym, subst}
use Rattle.std.proofs.lemmas.List.Elements.{All-filter, Contains-get_or}
use Rattle.pl_task.specs.declared.task.Task.{Task}
use Rattle.pl_task.specs.Instance.{Instance}
use Rattle.pl_task.specs.States.{State, IsStep}
use Rattle.pl_task.proofs.TypeLemmas.{applicable_step}
use Rattle.pl_normal.specs.Steps.{applicable_steps}
use Rattle.pl_normal.proofs.Listing.{applicable_listed}
use Rattle.pl_gen.specs.Walks.{is_above}

one_is : (task : Task) (s : State) (step : Instance) → Contains (applicable_steps task s) step
    → IsStep task step
one_is task s step h = applicable_step task s step ((applicable_listed task s step).0 h)

pub applicable_are_steps : (task : Task) (s : State) (left : List Instance) → left ≡ applicable_steps task s
    → All (IsStep task) left
applicable_are_steps task s left is k d low =
    one_is task s (get_or left k d)
    (subst (λ xs. Contains xs (get_or left k d)) is (Contains-get_or left k d low))

pub above_are_steps : (task : Task) (s : State) (past : Instance) (left : List Instance) →
    left ≡ filter (is_above task past) (applicable_steps task s) → All (IsStep task) left
above_are_steps task s past left is =
    subst (All (IsStep task)) (sym is)
    (All-filter (is_above task past) (IsStep task) (applicable_steps task s)
    (applicable_are_steps task s (applicable_steps task s) refl))
