-- Terms and literals whose parameters are in range, and slots whose objects and classes are.
use Rattle.std.specs.Prelude.{◌≡◌, ℕ, ◌<◌, ◌==◌, if◌then◌else◌, cond, List, [], ◌∷◌, map, slice_index, All}
use Rattle.std.specs.Prelude.{min, max}
use Rattle.pl_task.specs.declared.data.Lifted.{Lifted}
use Rattle.pl_task.specs.declared.data.Literal.{Literal}
use Rattle.pl_task.specs.declared.data.Literal.TheVariants as literal
use Rattle.pl_task.specs.declared.data.Term.{Term}
use Rattle.pl_task.specs.declared.data.Term.TheVariants as term
use Rattle.pl_join.specs.declared.slot.Slot.{Slot}
use Rattle.pl_join.specs.declared.slot.Slot.TheVariants.{Fixed}
use Rattle.pl_join.specs.Relation.{IsSlotBelow}
use Rattle.pl_normal.specs.declared.form.Sieve.{Sieve}
use Rattle.pl_normal.specs.declared.form.Sieve.TheVariants as sieve
use Rattle.pl_normal.specs.Classes.{Equality}
use Rattle.pl_normal.specs.ParameterOrder.{is_among}

-- a parameter below n, or any object
abbrev pub IsTermBelow : ℕ → Term → Type 0
IsTermBelow n t = (p : ℕ) → t ≡ term.Parameter p → p < n

-- its parameters are below n
pub record IsLiteralBelow (n : ℕ) (l : Literal) : Type 0 where
  pub atom : (a : Lifted) → l ≡ literal.Atom a → All (IsTermBelow n) a.terms
  pub not_atom : (a : Lifted) → l ≡ literal.NotAtom a → All (IsTermBelow n) a.terms
  pub equal_left : (a b : Term) → l ≡ literal.Equal a b → IsTermBelow n a
  pub equal_right : (a b : Term) → l ≡ literal.Equal a b → IsTermBelow n b
  pub not_equal_left : (a b : Term) → l ≡ literal.NotEqual a b → IsTermBelow n a
  pub not_equal_right : (a b : Term) → l ≡ literal.NotEqual a b → IsTermBelow n b

-- an object below a number, or any class
abbrev pub IsSlotOf : ℕ → Slot → Type 0
IsSlotOf objects slot = (o : ℕ) → slot ≡ Fixed o → o < objects

-- the classes of the filter are below 64
abbrev pub IsSieveBelow : Sieve → Type 0
IsSieveBelow (sieve.NotEqual a b) = IsSlotBelow 64 a × IsSlotBelow 64 b
IsSieveBelow (sieve.Absent predicate slots) = All (IsSlotBelow 64) slots

-- the lesser of two names in place of the greater, and any other name
abbrev pub renamed : ℕ → ℕ → ℕ → ℕ
renamed x y name = if name == max x y then min x y else name

-- the classes after the equalities, each of which gives two classes one name
abbrev pub joined_by : List Equality → List ℕ → List ℕ
joined_by [] classes = classes
joined_by (e ∷ es) classes = joined_by es
    (map (renamed (slice_index classes e.left) (slice_index classes e.right)) classes)

-- the number, unless it is among the classes
abbrev pub other_of : List ℕ → ℕ → List ℕ
other_of classes p = cond (is_among classes p) [] (p ∷ [])
