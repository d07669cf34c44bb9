-- What the functions inside the crate promise each other.
use Rattle.std.specs.Prelude.{◌≡◌, ℕ, ◌<◌, ◌↔◌, Bool, [], ◌∷◌, Some, IsTrue, All, slice_get}
use Rattle.std.specs.BTreeMap.{get}
use Rattle.std.specs.declared.cmp.Ordering.{Ordering}
use Rattle.std.specs.Ordering.{nat_cmp, ordering_then}
use Rattle.pl_task.specs.declared.data.Literal.{Literal}
use Rattle.pl_task.specs.declared.data.Literal.TheVariants as literal
use Rattle.pl_task.specs.declared.data.ObjectDef.{ObjectDef}
use Rattle.pl_task.specs.declared.data.Term.{Term}
use Rattle.pl_task.specs.declared.data.Term.TheVariants as term
use Rattle.pl_task.specs.declared.plan.PlanLine.{PlanLine}
use Rattle.pl_task.specs.declared.plan.PlanLine.TheVariants as line
use Rattle.pl_task.specs.declared.task.Task.{Task}
use Rattle.pl_task.specs.Instance.{Instance}
use Rattle.pl_task.specs.States.{State, IsApplicable, result_of}
use Rattle.pl_task.specs.Types.{HasType}
use Rattle.pl_valid.specs.declared.typing.TypeTable.{TypeTable}

-- a parameter has an object among so many
abbrev pub HasValue : ℕ → Term → Type 0
HasValue count t = (n : ℕ) → t ≡ term.Parameter n → n < count

-- the same of each term of a literal
abbrev pub HasValues : ℕ → Literal → Type 0
HasValues count (literal.Atom a) = All (HasValue count) a.terms
HasValues count (literal.NotAtom a) = All (HasValue count) a.terms
HasValues count (literal.Equal a b) = HasValue count a × HasValue count b
HasValues count (literal.NotEqual a b) = HasValue count a × HasValue count b

-- the order of pairs of numbers
abbrev pub pair_cmp : ℕ × ℕ → ℕ × ℕ → Ordering
pair_cmp p q = ordering_then (nat_cmp p.0 q.0) (nat_cmp p.1 q.1)

-- each answer in the table, by object and type, is right, and each example of a type is an object that was
-- declared with it alone
pub record KnowsTypes (task : Task) (table : TypeTable) : Type 0 where
  pub answers : (object type_number : ℕ) (answer : Bool) →
      get pair_cmp table.known (object, type_number) ≡ Some answer →
      IsTrue answer ↔ HasType task object type_number
  pub alike : (declared object : ℕ) → get nat_cmp table.alike declared ≡ Some object →
      (d : ObjectDef) × (slice_get task.objects object ≡ Some d) × (d.types ≡ declared ∷ [])

-- the line is an applicable step that leads from one state to the other
pub record IsExecuted (task : Task) (before : State) (l : PlanLine) (after : State) : Type 0 where
  pub step : Instance
  pub is : l ≡ line.Step step
  pub applicable : IsApplicable task before step
  pub leads : after ≡ result_of task before step
