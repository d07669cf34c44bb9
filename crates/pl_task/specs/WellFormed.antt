-- What every task keeps: numbers in range, atoms as wide as their predicates, sizes within the limits.
use Rattle.std.specs.Prelude.{◌≡◌, ◌≢◌, ℕ, ◌<◌, ◌≤◌, ◌^◌, Bool, ◌||◌, ◌==◌, not, IsTrue, List, Some, length}
use Rattle.std.specs.Prelude.{slice_get, All, AllPairs}
use Rattle.std.specs.List.{list_any}
use Rattle.pl_task.specs.declared.data.TypeDef.{TypeDef}
use Rattle.pl_task.specs.declared.data.ObjectDef.{ObjectDef}
use Rattle.pl_task.specs.declared.data.PredicateDef.{PredicateDef}
use Rattle.pl_task.specs.declared.data.Schema.{Schema}
use Rattle.pl_task.specs.declared.data.Parameter.{Parameter}
use Rattle.pl_task.specs.declared.data.Term.{Term}
use Rattle.pl_task.specs.declared.data.Term.TheVariants as term
use Rattle.pl_task.specs.declared.data.Lifted.{Lifted}
use Rattle.pl_task.specs.declared.data.Literal.{Literal}
use Rattle.pl_task.specs.declared.data.Literal.TheVariants as literal
use Rattle.pl_task.specs.declared.data.Atom.{Atom}
use Rattle.pl_task.specs.declared.data.GoalLiteral.{GoalLiteral}

-- there is the type `object`, numbers of types fit 32 bits, and parents are types
pub record AreTypes (types : List TypeDef) : Type 0 where
  pub some : 0 < length types
  pub many : length types < 2 ^ 32
  pub parents : All (λ (t : TypeDef). All (λ p. p < length types) t.parents) types

-- numbers of objects fit 32 bits, and their types are types
pub record AreObjects (types : List TypeDef) (objects : List ObjectDef) : Type 0 where
  pub many : length objects < 2 ^ 32
  pub typed : All (λ (o : ObjectDef). All (λ t. t < length types) o.types) objects

-- whether the lifted atom is of this predicate
abbrev pub is_of_predicate : ℕ → Lifted → Bool
is_of_predicate p atom = atom.predicate == p

-- whether a delete or an add of the schema names the predicate
abbrev pub changes : ℕ → Schema → Bool
changes p schema = list_any (is_of_predicate p) schema.delete || list_any (is_of_predicate p) schema.add

-- whether a delete or an add of some schema names the predicate
abbrev pub is_fluent : List Schema → ℕ → Bool
is_fluent schemas p = list_any (changes p) schemas

-- numbers of predicates fit 32 bits, arities are at most 64, and the static predicates are those that no
-- effect names
pub record ArePredicates (schemas : List Schema) (predicates : List PredicateDef) : Type 0 where
  pub many : length predicates < 2 ^ 32
  pub narrow : All (λ (d : PredicateDef). d.arity ≤ 64) predicates
  pub static : (p : ℕ) (d : PredicateDef) → slice_get predicates p ≡ Some d →
      d.is_static ≡ not (is_fluent schemas p)

-- a parameter below the number of parameters, or an object below the number of objects
pub record IsTermOf (objects parameters : ℕ) (t : Term) : Type 0 where
  pub parameter : (n : ℕ) → t ≡ term.Parameter n → n < parameters
  pub object : (n : ℕ) → t ≡ term.Object n → n < objects

-- an atom of a predicate of the task with as many terms as its arity
pub record IsLiftedOf (predicates : List PredicateDef) (objects parameters : ℕ) (atom : Lifted) : Type 0 where
  pub predicate : atom.predicate < length predicates
  pub arity : (d : PredicateDef) → slice_get predicates atom.predicate ≡ Some d → length atom.terms ≡ d.arity
  pub terms : All (IsTermOf objects parameters) atom.terms

-- its atom or its terms are of the task
pub record IsLiteralOf (predicates : List PredicateDef) (objects parameters : ℕ) (l : Literal) : Type 0 where
  pub atom : (a : Lifted) → l ≡ literal.Atom a → IsLiftedOf predicates objects parameters a
  pub not_atom : (a : Lifted) → l ≡ literal.NotAtom a → IsLiftedOf predicates objects parameters a
  pub equal_left : (a b : Term) → l ≡ literal.Equal a b → IsTermOf objects parameters a
  pub equal_right : (a b : Term) → l ≡ literal.Equal a b → IsTermOf objects parameters b
  pub not_equal_left : (a b : Term) → l ≡ literal.NotEqual a b → IsTermOf objects parameters a
  pub not_equal_right : (a b : Term) → l ≡ literal.NotEqual a b → IsTermOf objects parameters b

-- at most 64 parameters of types of the task, at most 1,024 literals, and atoms of the task
pub record IsSchemaOf (types : List TypeDef) (objects : List ObjectDef) (predicates : List PredicateDef)
    (schema : Schema) : Type 0 where
  pub few_parameters : length schema.parameters ≤ 64
  pub few_literals : length schema.condition ≤ 1024
  pub typed : All (λ (p : Parameter). All (λ t. t < length types) p.types) schema.parameters
  pub literals : All (IsLiteralOf predicates (length objects) (length schema.parameters)) schema.condition
  pub deletes : All (IsLiftedOf predicates (length objects) (length schema.parameters)) schema.delete
  pub adds : All (IsLiftedOf predicates (length objects) (length schema.parameters)) schema.add

-- numbers of schemas fit 32 bits, and each is a schema of the task
pub record AreSchemas (types : List TypeDef) (objects : List ObjectDef) (predicates : List PredicateDef)
    (schemas : List Schema) : Type 0 where
  pub many : length schemas < 2 ^ 32
  pub each : All (IsSchemaOf types objects predicates) schemas

-- a predicate of the task with as many objects of the task as its arity
pub record IsAtomOf (objects : List ObjectDef) (predicates : List PredicateDef) (atom : Atom) : Type 0 where
  pub predicate : atom.predicate < length predicates
  pub arity : (d : PredicateDef) → slice_get predicates atom.predicate ≡ Some d →
      length atom.objects ≡ d.arity
  pub within : All (λ o. o < length objects) atom.objects

-- atoms of the task, each once
pub record AreInitial (objects : List ObjectDef) (predicates : List PredicateDef) (init : List Atom) :
    Type 0 where
  pub each : All (IsAtomOf objects predicates) init
  pub distinct : AllPairs (λ (a b : Atom). a ≢ b) init

-- the number of goal literals fits 32 bits, and each is about an atom of the task
pub record IsGoalOf (objects : List ObjectDef) (predicates : List PredicateDef) (goal : List GoalLiteral) :
    Type 0 where
  pub many : length goal < 2 ^ 32
  pub each : All (λ (g : GoalLiteral). IsAtomOf objects predicates g.atom) goal
