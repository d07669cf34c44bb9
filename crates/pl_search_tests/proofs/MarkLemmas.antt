-- The task of the tests of width searches is well-formed.
use Rattle.std.proofs.Common.{◌≡◌, ℕ, ◌<◌, ◌≤◌, zero, suc, not, List, [], ◌∷◌, length, sym, ap, arith, Some}
use Rattle.std.proofs.Common.{slice_get, All}
use Rattle.std.proofs.lemmas.List.Elements.{All-nil, All-cons}
use Rattle.std.proofs.lemmas.Option.{same_Some}
use Rattle.pl_task.specs.declared.data.Atom.{Atom}
use Rattle.pl_task.specs.declared.data.GoalLiteral.{GoalLiteral}
use Rattle.pl_task.specs.declared.data.ObjectDef.{ObjectDef}
use Rattle.pl_task.specs.declared.data.Parameter.{Parameter}
use Rattle.pl_task.specs.declared.data.PredicateDef.{PredicateDef}
use Rattle.pl_task.specs.declared.data.Schema.{Schema}
use Rattle.pl_task.specs.declared.data.TypeDef.{TypeDef}
use Rattle.pl_task.specs.WellFormed.{AreObjects, ArePredicates, AreSchemas, AreInitial, IsGoalOf, IsSchemaOf}
use Rattle.pl_task.specs.WellFormed.{IsLiteralOf, IsLiftedOf, IsTermOf, IsAtomOf, is_fluent}
use Rattle.pl_search_tests.specs.Marks.{mark, mark_set, mark_definition, mark_definitions, make, makers}

three : (X : Type 0) (P : X → Type 0) (x y z : X) → P x → P y → P z → All P (x ∷ y ∷ z ∷ [])
three X P x y z h g f = All-cons P x (y ∷ z ∷ []) h (All-cons P y (z ∷ []) g (All-cons P z [] f (All-nil P)))

definition_is : (p : ℕ) (d : PredicateDef) → slice_get mark_definitions p ≡ Some d → mark_definition ≡ d
definition_is zero d e = same_Some mark_definition d e
definition_is (suc zero) d e = same_Some mark_definition d e
definition_is (suc (suc zero)) d e = same_Some mark_definition d e
definition_is (suc (suc (suc p))) d e = absurd (cc)

mark_is : (objects parameters p : ℕ) → p < 3 → IsLiftedOf mark_definitions objects parameters (mark p)
mark_is objects parameters p l = record {
  predicate = l;
  arity = λ d e. ap (λ (x : PredicateDef). x.arity) (definition_is p d e);
  terms = All-nil (IsTermOf objects parameters);
}

make_is : (types : List TypeDef) (objects : List ObjectDef) (p : ℕ) → p < 3
    → IsSchemaOf types objects mark_definitions (make p)
make_is types objects p l = record {
  few_parameters = omega arith;
  few_literals = omega arith;
  typed = All-nil (λ (q : Parameter). All (λ t. t < length types) q.types);
  literals = All-nil (IsLiteralOf mark_definitions (length objects) 0);
  deletes = All-nil (IsLiftedOf mark_definitions (length objects) 0);
  adds = All-cons (IsLiftedOf mark_definitions (length objects) 0) (mark p) []
      (mark_is (length objects) 0 p l) (All-nil (IsLiftedOf mark_definitions (length objects) 0));
}

static : (p : ℕ) (d : PredicateDef) → slice_get mark_definitions p ≡ Some d
    → d.is_static ≡ not (is_fluent makers p)
static zero d e = ap (λ (x : PredicateDef). x.is_static) (sym (same_Some mark_definition d e))
static (suc zero) d e = ap (λ (x : PredicateDef). x.is_static) (sym (same_Some mark_definition d e))
static (suc (suc zero)) d e = ap (λ (x : PredicateDef). x.is_static) (sym (same_Some mark_definition d e))
static (suc (suc (suc p))) d e = absurd (cc)

predicates_literal : ArePredicates makers mark_definitions
predicates_literal = record {
  many = omega arith;
  narrow = three PredicateDef (λ (d : PredicateDef). d.arity ≤ 64) mark_definition mark_definition
      mark_definition (omega arith) (omega arith) (omega arith);
  static = static;
}

pub objects_well : (types : List TypeDef) (objects : List ObjectDef) → objects ≡ [] → AreObjects types objects
objects_well types objects none = record {
  many = omega (arith, ap length none);
  typed = rw none (All-nil (λ (o : ObjectDef). All (λ t. t < length types) o.types));
}

pub predicates_well : (schemas : List Schema) (predicates : List PredicateDef) → schemas ≡ makers
    → predicates ≡ mark_definitions → ArePredicates schemas predicates
predicates_well schemas predicates ss ps = rw (ss, ps) predicates_literal

pub schemas_well : (types : List TypeDef) (objects : List ObjectDef) (predicates : List PredicateDef)
    (schemas : List Schema) → schemas ≡ makers → predicates ≡ mark_definitions →
    AreSchemas types objects predicates schemas
schemas_well types objects predicates schemas ss ps = record {
  many = omega (arith, ap length ss);
  each = rw (ss, ps) (three Schema (IsSchemaOf types objects mark_definitions) (make 0) (make 1) (make 2)
      (make_is types objects 0 (omega arith)) (make_is types objects 1 (omega arith))
      (make_is types objects 2 (omega arith)));
}

pub init_well : (objects : List ObjectDef) (predicates : List PredicateDef) (init : List Atom) → init ≡ []
    → AreInitial objects predicates init
init_well objects predicates init none = record {
  each = rw none (All-nil (IsAtomOf objects predicates));
  distinct = rw none (λ i j d l m. absurd (omega arith));
}

set_is : (objects : List ObjectDef) (p : ℕ) → p < 3 → IsAtomOf objects mark_definitions (mark_set p)
set_is objects p l = record {
  predicate = l;
  arity = λ d e. ap (λ (x : PredicateDef). x.arity) (definition_is p d e);
  within = All-nil (λ o. o < length objects);
}

literal_is : (objects : List ObjectDef) (g : GoalLiteral) (p : ℕ) → p < 3 → g.atom ≡ mark_set p
    → IsAtomOf objects mark_definitions g.atom
literal_is objects g p l e = rw e (set_is objects p l)

pub goal_well : (objects : List ObjectDef) (predicates : List PredicateDef) (goal : List GoalLiteral)
    (a b d : GoalLiteral) → predicates ≡ mark_definitions → goal ≡ a ∷ b ∷ d ∷ [] →
    a.atom ≡ mark_set 0 → b.atom ≡ mark_set 1 → d.atom ≡ mark_set 2 → IsGoalOf objects predicates goal
goal_well objects predicates goal a b d ps gs at bt dt = record {
  many = omega (arith, ap length gs);
  each = rw (ps, gs) (three GoalLiteral (λ (g : GoalLiteral). IsAtomOf objects mark_definitions g.atom) a b d
      (literal_is objects a 0 (omega arith) at) (literal_is objects b 1 (omega arith) bt)
      (literal_is objects d 2 (omega arith) dt));
}
