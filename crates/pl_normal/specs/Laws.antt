-- Laws about classes, ears, queries and the lists of steps, carried by the functions of the module `laws`.
use Rattle.std.specs.Prelude.{◌≡◌, ◌≤◌, ◌<◌, ℕ, ◌↔◌, List, IsTrue, Contains, Some, slice_get, slice_index}
use Rattle.std.specs.Prelude.{map, length, AllPairs, ◌≢◌}
use Rattle.std.specs.Cmp.{IsTotalOrder}
use Rattle.std.specs.declared.cmp.Ordering.TheVariants.{Equal}
use Rattle.std.specs.List.Sorted.{IsStrictlySortedBy}
use Rattle.pl_task.specs.declared.data.Schema.{Schema}
use Rattle.pl_task.specs.declared.task.Task.{Task}
use Rattle.pl_task.specs.Instance.{Instance}
use Rattle.pl_task.specs.States.{State, IsStep, IsApplicable}
use Rattle.pl_hyper.specs.Ears.{Removal, IsRemoval}
use Rattle.pl_join.specs.Relation.{Assignment, Agree}
use Rattle.pl_rows.specs.Rows.{row_cmp}
use Rattle.pl_normal.specs.Classes.{Equality, AreJoined, are_joined, class_of}
use Rattle.pl_normal.specs.EarRemoval.{ear_removal}
use Rattle.pl_normal.specs.ParameterOrder.{classes_in_order, parameter_order}
use Rattle.pl_normal.specs.Query.{KeepsStatic, is_answer, step_under}
use Rattle.pl_normal.specs.StepOrder.{step_cmp}
use Rattle.pl_normal.specs.Steps.{all_steps, applicable_steps}

-- the test of joined parameters decides whether a chain of equalities joins them
abbrev pub ChainsAreTested : Type 0
ChainsAreTested = (es : List Equality) (a b : ℕ) → IsTrue (are_joined es a b) ↔ AreJoined es a b

-- the class of a parameter is named by the least parameter that a chain joins to it
pub record IsLeastOfClass (es : List Equality) (p class : ℕ) : Type 0 where
  pub joined : AreJoined es p class
  pub least : (q : ℕ) → AreJoined es p q → class ≤ q

abbrev pub ClassesAreLeast : Type 0
ClassesAreLeast = (es : List Equality) (p : ℕ) → IsLeastOfClass es p (class_of es p)

-- the removal of ears as a function is a removal
abbrev pub EarRemovalsAreRemovals : Type 0
EarRemovalsAreRemovals = (edges : List ℕ) → IsRemoval (ear_removal edges)

-- and there is no other
abbrev pub RemovalsAreOne : Type 0
RemovalsAreOne = (plan : Removal) → IsRemoval plan → plan ≡ ear_removal plan.edges

-- in a state that keeps the atoms over static predicates, an assignment meets all edges, guards and filters
-- of a schema exactly where the step under it is applicable
abbrev pub AnswersAreApplicable : Task → Type 0
AnswersAreApplicable task = (number : ℕ) (schema : Schema) (s : State) (f : Assignment)
    → slice_get task.schemas number ≡ Some schema → KeepsStatic task s →
    IsTrue (is_answer task schema s f) ↔ IsApplicable task s (step_under number schema f)

-- each applicable step is the step under the assignment that gives each class the object of the parameter
-- that names it
abbrev pub StepsAreAnswers : Task → Type 0
StepsAreAnswers task = (schema : Schema) (s : State) (step : Instance)
    → slice_get task.schemas step.schema ≡ Some schema → IsApplicable task s step →
    step ≡ step_under step.schema schema (slice_index step.args)

-- assignments have one step exactly where they agree on the unfixed classes
abbrev pub StepsAreAssignments : Task → Type 0
StepsAreAssignments task = (number : ℕ) (schema : Schema) (f g : Assignment)
    → slice_get task.schemas number ≡ Some schema →
    (step_under number schema f ≡ step_under number schema g) ↔ Agree (classes_in_order schema) f g

-- steps of a schema under assignments compare as the objects of the unfixed classes do, read in class order
abbrev pub StepsCompareByClasses : Task → Type 0
StepsCompareByClasses task = (number : ℕ) (schema : Schema) (f g : Assignment)
    → slice_get task.schemas number ≡ Some schema →
    step_cmp task (step_under number schema f) (step_under number schema g) ≡ row_cmp
    (map f (classes_in_order schema)) (map g (classes_in_order schema))

-- the parameter order of a schema has each of its parameters once
pub record IsOrderOfAll (count : ℕ) (order : List ℕ) : Type 0 where
  pub once : AllPairs (λ a b. a ≢ b) order
  pub all : (p : ℕ) → Contains order p ↔ (p < count)
  pub many : length order ≡ count

abbrev pub ParametersAreOrdered : Task → Type 0
ParametersAreOrdered task = (number : ℕ) (schema : Schema) → slice_get task.schemas number ≡ Some schema
    → IsOrderOfAll (length schema.parameters) (parameter_order schema)

-- the order of steps is a total order, in which no two steps of the task are equal
abbrev pub StepOrderIsTotal : Task → Type 0
StepOrderIsTotal task = IsTotalOrder (step_cmp task)

abbrev pub StepsTieNowhere : Task → Type 0
StepsTieNowhere task = (a b : Instance) → IsStep task a → IsStep task b → step_cmp task a b ≡ Equal → a ≡ b

-- the list of all steps has exactly the steps of the task, and ascends, so each stands in it once
abbrev pub AllStepsAreSteps : Task → Type 0
AllStepsAreSteps task = (step : Instance) → Contains (all_steps task) step ↔ IsStep task step

abbrev pub AllStepsAscend : Task → Type 0
AllStepsAscend task = IsStrictlySortedBy (step_cmp task) (all_steps task)

-- the list of applicable steps has exactly those, and ascends
abbrev pub ApplicableStepsAreListed : Task → Type 0
ApplicableStepsAreListed task = (s : State) (step : Instance) → Contains (applicable_steps task s) step
    ↔ IsApplicable task s step

abbrev pub ApplicableStepsAscend : Task → Type 0
ApplicableStepsAscend task = (s : State) → IsStrictlySortedBy (step_cmp task) (applicable_steps task s)
