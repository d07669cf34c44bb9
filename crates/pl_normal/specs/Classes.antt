-- Which parameters of a schema always take one object: the classes of parameters, and the objects that
-- equalities fix them to.
use Rattle.std.specs.Prelude.{◌≡◌, ℕ, Bool, ◌==◌, ◌||◌, ◌&&◌, if◌then◌else◌, List, [], ◌∷◌, ◌⊎◌, Option, Some}
use Rattle.std.specs.Prelude.{None, length, map, slice_index, Contains}
use Rattle.std.specs.List.{flat_map, range_with_len}
use Rattle.pl_task.specs.declared.data.Literal.{Literal}
use Rattle.pl_task.specs.declared.data.Literal.TheVariants as literal
use Rattle.pl_task.specs.declared.data.Schema.{Schema}
use Rattle.pl_task.specs.declared.data.Term.{Term}
use Rattle.pl_task.specs.declared.data.Term.TheVariants as term
pub use Rattle.pl_normal.specs.declared.classes.Fixing.{Fixing}

-- a positive equality of two parameters; a `Fixing` is one of a parameter and an object
pub record Equality : Type 0 where
  pub left : ℕ
  pub right : ℕ

-- the equality of two parameters, if there is one
abbrev pub equality_list : Option (ℕ × ℕ) → List Equality
equality_list None = []
equality_list (Some (a, b)) = record { left = a; right = b } ∷ []

abbrev pub equality_of : Term → Term → List Equality
equality_of (term.Parameter a) (term.Parameter b) = record { left = a; right = b } ∷ []
equality_of (term.Parameter a) (term.Object b) = []
equality_of (term.Object a) b = []

abbrev pub literal_equality : Literal → List Equality
literal_equality (literal.Atom a) = []
literal_equality (literal.NotAtom a) = []
literal_equality (literal.Equal a b) = equality_of a b
literal_equality (literal.NotEqual a b) = []

-- the equalities of two parameters, in reading order
abbrev pub equalities : List Literal → List Equality
equalities condition = flat_map literal_equality condition

abbrev pub fixing_of : Term → Term → List Fixing
fixing_of (term.Parameter a) (term.Parameter b) = []
fixing_of (term.Parameter a) (term.Object b) = record { parameter = a; object = b } ∷ []
fixing_of (term.Object a) (term.Parameter b) = record { parameter = b; object = a } ∷ []
fixing_of (term.Object a) (term.Object b) = []

abbrev pub literal_fixing : Literal → List Fixing
literal_fixing (literal.Atom a) = []
literal_fixing (literal.NotAtom a) = []
literal_fixing (literal.Equal a b) = fixing_of a b
literal_fixing (literal.NotEqual a b) = []

-- the equalities of a parameter and an object, in reading order
abbrev pub fixings : List Literal → List Fixing
fixings condition = flat_map literal_fixing condition

-- one of the equalities is between these two parameters
abbrev pub AreEquated : List Equality → ℕ → ℕ → Type 0
AreEquated es a b = (Contains es (record { left = a; right = b }))
    ⊎ (Contains es (record { left = b; right = a }))

-- the list that begins with a and goes on with the rest ends with b, and each member is equated with the one
-- before it
abbrev pub IsChain : List Equality → ℕ → List ℕ → ℕ → Type 0
IsChain es a [] b = a ≡ b
IsChain es a (c ∷ rest) b = AreEquated es a c × IsChain es c rest b

-- a chain of equalities between parameters joins the two; none of its steps goes through an object
abbrev pub AreJoined : List Equality → ℕ → ℕ → Type 0
AreJoined es a b = (rest : List ℕ) × IsChain es a rest b

-- The same as a test: the two are joined without the first equality, or over it, from the one to its one side
-- and from its other side to the other.
abbrev pub are_joined : List Equality → ℕ → ℕ → Bool
are_joined [] a b = a == b
are_joined (e ∷ es) a b = are_joined es a b
    || ((are_joined es a e.left && are_joined es e.right b)
    || (are_joined es a e.right && are_joined es e.left b))

-- the first number that passes, or another where none does
abbrev pub first_that : (ℕ → Bool) → List ℕ → ℕ → ℕ
first_that test [] other = other
first_that test (x ∷ xs) other = if test x then x else first_that test xs other

-- the class of a parameter, named by the least parameter that is joined to it
unfoldable pub class_of : List Equality → ℕ → ℕ
class_of es p = first_that (are_joined es p) (range_with_len 0 p) p

-- the class of each parameter
unfoldable pub parameter_classes : Schema → List ℕ
parameter_classes schema = map (class_of (equalities schema.condition))
    (range_with_len 0 (length schema.parameters))

-- the object that a class is fixed to: that of the first fixing of a parameter of the class
abbrev pub object_of : List ℕ → List Fixing → ℕ → Option ℕ
object_of classes [] class = None
object_of classes (f ∷ fs) class = if slice_index classes f.parameter == class then Some f.object else
    object_of classes fs class
