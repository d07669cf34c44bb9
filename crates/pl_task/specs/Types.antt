-- Types, and which objects have them.
use Rattle.std.specs.Prelude.{◌≡◌, ℕ, Bool, false, ◌||◌, ◌&&◌, ◌==◌, List, [], ◌∷◌, ◌++◌, ◌⊎◌, Option, Some}
use Rattle.std.specs.Prelude.{None, length, slice_get, Contains, zero, suc}
use Rattle.std.specs.List.{list_any}
use Rattle.pl_task.specs.declared.data.TypeDef.{TypeDef}
use Rattle.pl_task.specs.declared.data.ObjectDef.{ObjectDef}
use Rattle.pl_task.specs.declared.task.Task.{Task}

-- type b is a parent of type a
abbrev pub IsParent : List TypeDef → ℕ → ℕ → Type 0
IsParent types a b = (d : TypeDef) × (slice_get types a ≡ Some d) × Contains d.parents b

-- the list that begins with a and goes on with the rest ends with t, and each member is a parent of the one
-- before it
abbrev pub IsChain : List TypeDef → ℕ → List ℕ → ℕ → Type 0
IsChain types a [] t = a ≡ t
IsChain types a (b ∷ rest) t = IsParent types a b × IsChain types b rest t

-- some chain of parents leads from a to t; parents may run in a circle
abbrev pub Leads : List TypeDef → ℕ → ℕ → Type 0
Leads types a t = (rest : List ℕ) × IsChain types a rest t

-- a chain of parents leads to t from one of the starts
abbrev pub IsReached : List TypeDef → List ℕ → ℕ → Type 0
IsReached types starts t = (a : ℕ) × Contains starts a × Leads types a t

-- the object is one of the objects, and the type is `object`, which is type 0, or is reached from one of the
-- object's types
pub record HasType (task : Task) (object type_number : ℕ) : Type 0 where
  pub definition : ObjectDef
  pub found : slice_get task.objects object ≡ Some definition
  pub chain : (type_number ≡ 0) ⊎ IsReached task.types definition.types type_number

-- The same as a test, for lists of steps that are filtered by it.

abbrev pub parents_of : Option TypeDef → List ℕ
parents_of None = []
parents_of (Some d) = d.parents

abbrev pub is_parent : List TypeDef → ℕ → ℕ → Bool
is_parent types a b = list_any (λ p. p == b) (parents_of (slice_get types a))

-- whether parents lead from a to b with all types between among the ones listed
abbrev pub leads_through : List TypeDef → List ℕ → ℕ → ℕ → Bool
leads_through types [] a b = (a == b) || is_parent types a b
leads_through types (k ∷ ks) a b = leads_through types ks a b ||
    (leads_through types ks a k && leads_through types ks k b)

-- 0, 1, .., n - 1
abbrev pub numbers_below : ℕ → List ℕ
numbers_below zero = []
numbers_below (suc n) = numbers_below n ++ n ∷ []

abbrev pub leads : List TypeDef → ℕ → ℕ → Bool
leads types a b = leads_through types (numbers_below (length types)) a b

abbrev pub is_of_type_by : Task → ℕ → Option ObjectDef → Bool
is_of_type_by task t None = false
is_of_type_by task t (Some d) = (t == 0) || list_any (λ a. leads task.types a t) d.types

abbrev pub is_of_type : Task → ℕ → ℕ → Bool
is_of_type task o t = is_of_type_by task t (slice_get task.objects o)
