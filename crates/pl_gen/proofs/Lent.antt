-- The steps that a walk lends out are steps of the task.
use Rattle.std.proofs.Common.{◌≡◌, ℕ, List, get_or, All, Contains, Option, Some, ap, ◌∙◌, subst, arith}
use Rattle.std.specs.Option.{option_map}
use Rattle.std.proofs.lemmas.List.Elements.{Contains-get_or, All-rest}
use Rattle.pl_task.specs.declared.task.Task.{Task}
use Rattle.pl_task.specs.declared.step.StepRef.{StepRef}
use Rattle.pl_task.specs.Instance.{Instance}
use Rattle.pl_task.specs.States.{IsStep}
use Rattle.pl_task.proofs.TypeLemmas.{applicable_step}
use Rattle.pl_normal.proofs.Listing.{applicable_listed}
use Rattle.pl_state.specs.StateOf.{state_in}
use Rattle.pl_gen.specs.Walks.{PreparedState, WalkView, Gives, IsTurn, steps_in}

-- the applicable steps of a prepared state are steps of its task
pub all_steps : (task : Task) (words : List ℕ) (prepared : PreparedState) (left : List Instance) →
    prepared ≡ record { task = task; words = words } → left ≡ steps_in prepared → All (IsStep task) left
all_steps task words prepared left is steps k d low =
    applicable_step task (state_in task words) (get_or left k d)
    ((applicable_listed task (state_in task words) (get_or left k d)).0
    (subst (λ xs. Contains xs (get_or left k d)) (steps ∙ ap steps_in is) (Contains-get_or left k d low)))

-- a step as it is lent out
abbrev pub lent : StepRef → Instance
lent step = record { schema = step.schema; args = step.args.now }

-- the step that a walk gave
pub given : (old new : WalkView) (result : Option StepRef) (step : StepRef) → result ≡ Some step →
    IsTurn old (option_map lent result) new → Gives old new (lent step)
given old new result step is turn = subst (λ r. IsTurn old (option_map lent r) new) is turn

-- it is a step of the task, and so are the others
pub given_is_step : (task : Task) (old new : WalkView) (step : Instance) → All (IsStep task) old.left →
    Gives old new step → IsStep task step
given_is_step task old new step all gives = (subst (All (IsStep task)) gives.left all) 0 step (omega arith)

pub others_are_steps : (task : Task) (old new : WalkView) (step : Instance) → All (IsStep task) old.left →
    Gives old new step → All (IsStep task) new.left
others_are_steps task old new step all gives = All-rest (IsStep task) step new.left old.left gives.left all
