-- The task of the tests of hopeless states is well-formed.
use Rattle.std.proofs.Common.{◌≡◌, ℕ, ◌<◌, ◌≤◌, zero, suc, not, List, [], ◌∷◌, length, sym, ap, arith, Some}
use Rattle.std.proofs.Common.{slice_get, All}
use Rattle.std.proofs.lemmas.List.Elements.{All-nil, All-cons, All-same}
use Rattle.std.proofs.lemmas.Option.{same_Some}
use Rattle.pl_task.specs.declared.data.Atom.{Atom}
use Rattle.pl_task.specs.declared.data.GoalLiteral.{GoalLiteral}
use Rattle.pl_task.specs.declared.data.Lifted.{Lifted}
use Rattle.pl_task.specs.declared.data.ObjectDef.{ObjectDef}
use Rattle.pl_task.specs.declared.data.Parameter.{Parameter}
use Rattle.pl_task.specs.declared.data.PredicateDef.{PredicateDef}
use Rattle.pl_task.specs.declared.data.Schema.{Schema}
use Rattle.pl_task.specs.declared.data.Term.{Term}
use Rattle.pl_task.specs.declared.data.Term.TheVariants as term
use Rattle.pl_task.specs.declared.data.TypeDef.{TypeDef}
use Rattle.pl_task.specs.WellFormed.{AreTypes, ArePredicates, AreSchemas, AreInitial, IsGoalOf, IsSchemaOf}
use Rattle.pl_task.specs.WellFormed.{IsLiteralOf, IsLiftedOf, IsTermOf, IsAtomOf, is_fluent}
use Rattle.pl_task.specs.Atoms.{atom_of}
use Rattle.pl_samples.proofs.WellFormed.{one, two}
use Rattle.pl_search_tests.specs.Twins.{bare, pair_definition, link_definition, mark_definition}
use Rattle.pl_search_tests.specs.Twins.{twin_definitions}
use Rattle.pl_search_tests.specs.Twins.{twice, marked, nobody, twin}

first_is : (objects : ℕ) → IsTermOf objects 1 (term.Parameter 0)
first_is objects = record {
  parameter = λ n e. (let same : 0 ≡ n = cc in omega arith);
  object = λ n e. absurd (cc);
}

twice_is : (objects : ℕ) → IsLiftedOf twin_definitions objects 1 twice
twice_is objects = record {
  predicate = omega arith;
  arity = λ d e. ap (λ (x : PredicateDef). x.arity) (same_Some pair_definition d e);
  terms = two Term (IsTermOf objects 1) (term.Parameter 0) (term.Parameter 0) (first_is objects)
      (first_is objects);
}

marked_is : (objects : ℕ) → IsLiftedOf twin_definitions objects 1 marked
marked_is objects = record {
  predicate = omega arith;
  arity = λ d e. ap (λ (x : PredicateDef). x.arity) (same_Some mark_definition d e);
  terms = one Term (IsTermOf objects 1) (term.Parameter 0) (first_is objects);
}

twin_is : (types : List TypeDef) (objects : List ObjectDef) → 1 < length types
    → IsSchemaOf types objects twin_definitions twin
twin_is types objects h = record {
  few_parameters = omega arith;
  few_literals = omega arith;
  typed = one Parameter (λ (p : Parameter). All (λ t. t < length types) p.types) nobody
      (one ℕ (λ t. t < length types) 1 h);
  literals = All-nil (IsLiteralOf twin_definitions (length objects) 1);
  deletes = one Lifted (IsLiftedOf twin_definitions (length objects) 1) twice (twice_is (length objects));
  adds = two Lifted (IsLiftedOf twin_definitions (length objects) 1) twice marked (twice_is (length objects))
      (marked_is (length objects));
}

pub twin_types : (types : List TypeDef) → types ≡ bare ∷ bare ∷ [] → AreTypes types
twin_types types are = record {
  some = omega (arith, ap length are);
  many = omega (arith, ap length are);
  parents = All-same (λ (d : TypeDef). All (λ p. p < length types) d.parents) types (bare ∷ bare ∷ []) are
      (two TypeDef (λ (d : TypeDef). All (λ p. p < length types) d.parents) bare bare
      (All-nil (λ p. p < length types)) (All-nil (λ p. p < length types)));
}

static : (p : ℕ) (d : PredicateDef) → slice_get twin_definitions p ≡ Some d
    → d.is_static ≡ not (is_fluent (twin ∷ []) p)
static zero d e = ap (λ (x : PredicateDef). x.is_static) (sym (same_Some pair_definition d e))
static (suc zero) d e = ap (λ (x : PredicateDef). x.is_static) (sym (same_Some link_definition d e))
static (suc (suc zero)) d e = ap (λ (x : PredicateDef). x.is_static) (sym (same_Some mark_definition d e))
static (suc (suc (suc p))) d e = absurd (cc)

predicates_literal : ArePredicates (twin ∷ []) twin_definitions
predicates_literal = record {
  many = omega arith;
  narrow = All-cons (λ (d : PredicateDef). d.arity ≤ 64) pair_definition
      (link_definition ∷ mark_definition ∷ []) (omega arith)
      (two PredicateDef (λ (d : PredicateDef). d.arity ≤ 64) link_definition mark_definition (omega arith)
      (omega arith));
  static = static;
}

pub twin_predicates : (schemas : List Schema) (predicates : List PredicateDef) → schemas ≡ twin ∷ []
    → predicates ≡ twin_definitions → ArePredicates schemas predicates
twin_predicates schemas predicates ss ps = rw (ss, ps) predicates_literal

pub twin_schemas : (types : List TypeDef) (objects : List ObjectDef) (predicates : List PredicateDef)
    (schemas : List Schema) → 1 < length types →
    schemas ≡ twin ∷ [] → predicates ≡ twin_definitions → AreSchemas types objects predicates schemas
twin_schemas types objects predicates schemas some ss ps = record {
  many = omega (arith, ap length ss);
  each = rw (ss, ps) (one Schema (IsSchemaOf types objects twin_definitions) twin
      (twin_is types objects some));
}

pub twin_init : (objects : List ObjectDef) (predicates : List PredicateDef) (init : List Atom)
    → 2 ≤ length objects → predicates ≡ twin_definitions → init ≡ atom_of 1 (0 ∷ 1 ∷ []) ∷ []
    → AreInitial objects predicates init
twin_init objects predicates init some ps is = record {
  each = rw (is, ps) (one Atom (IsAtomOf objects twin_definitions) (atom_of 1 (0 ∷ 1 ∷ [])) (record {
    predicate = omega arith;
    arity = λ d e. ap (λ (x : PredicateDef). x.arity) (same_Some link_definition d e);
    within = two ℕ (λ o. o < length objects) 0 1 (omega arith) (omega arith);
  }));
  distinct = rw is (λ i j d l m. absurd (omega arith));
}

pub no_goal : (objects : List ObjectDef) (predicates : List PredicateDef) (goal : List GoalLiteral)
    → goal ≡ [] → IsGoalOf objects predicates goal
no_goal objects predicates goal is = record {
  many = omega (arith, ap length is);
  each = All-same (λ (g : GoalLiteral). IsAtomOf objects predicates g.atom) goal [] is
      (All-nil (λ (g : GoalLiteral). IsAtomOf objects predicates g.atom));
}

pub one_goal : (objects : List ObjectDef) (predicates : List PredicateDef) (goal : List GoalLiteral)
    (g : GoalLiteral) → goal ≡ g ∷ [] → IsAtomOf objects predicates g.atom → IsGoalOf objects predicates goal
one_goal objects predicates goal g is well = record {
  many = omega (arith, ap length is);
  each = All-same (λ (x : GoalLiteral). IsAtomOf objects predicates x.atom) goal (g ∷ []) is
      (one GoalLiteral (λ (x : GoalLiteral). IsAtomOf objects predicates x.atom) g well);
}
