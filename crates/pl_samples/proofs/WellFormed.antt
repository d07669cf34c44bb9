-- Lists of a test task are well-formed: those of the task of places, and what other test tasks share with
-- them.
use Rattle.std.proofs.Common.{◌≡◌, ℕ, ◌<◌, ◌≤◌, ◌^◌, zero, suc, Bool, true, not, List, [], ◌∷◌, length, sym}
use Rattle.std.proofs.Common.{ap, arith, Some, slice_get, All}
use Rattle.std.proofs.lemmas.List.Elements.{All-nil, All-cons, All-same, All-weaker}
use Rattle.std.proofs.lemmas.Option.{same_Some}
use Rattle.pl_task.specs.declared.data.Atom.{Atom}
use Rattle.pl_task.specs.declared.data.GoalLiteral.{GoalLiteral}
use Rattle.pl_task.specs.declared.data.Lifted.{Lifted}
use Rattle.pl_task.specs.declared.data.ObjectDef.{ObjectDef}
use Rattle.pl_task.specs.declared.data.Parameter.{Parameter}
use Rattle.pl_task.specs.declared.data.PredicateDef.{PredicateDef}
use Rattle.pl_task.specs.declared.data.Schema.{Schema}
use Rattle.pl_task.specs.declared.data.Term.{Term}
use Rattle.pl_task.specs.declared.data.Term.TheVariants as term
use Rattle.pl_task.specs.declared.data.TypeDef.{TypeDef}
use Rattle.pl_task.specs.WellFormed.{AreTypes, AreObjects, ArePredicates, AreSchemas, AreInitial, IsGoalOf}
use Rattle.pl_task.specs.WellFormed.{IsSchemaOf, IsLiteralOf, IsLiftedOf, IsTermOf, IsAtomOf, is_fluent}
use Rattle.pl_task.specs.Atoms.{atom_of}
use Rattle.pl_samples.specs.Places.{plain, at_place, done, at_definition, link_definition, done_definition}
use Rattle.pl_samples.specs.Places.{definitions, place, hop, finish, spread, schemas_of_places, hop_goal}
use Rattle.pl_samples.specs.Places.{literal_of}

pub one : (X : Type 0) (P : X → Type 0) (x : X) → P x → All P (x ∷ [])
one X P x h = All-cons P x [] h (All-nil P)

pub two : (X : Type 0) (P : X → Type 0) (x y : X) → P x → P y → All P (x ∷ y ∷ [])
two X P x y h g = All-cons P x (y ∷ []) h (one X P y g)

parameter_is : (objects parameters k : ℕ) → k < parameters → IsTermOf objects parameters (term.Parameter k)
parameter_is objects parameters k h = record {
  parameter = λ n e. (let same : k ≡ n = cc in omega arith);
  object = λ n e. absurd (cc);
}

at_is : (objects parameters k : ℕ) → k < parameters →
    IsLiftedOf definitions objects parameters (at_place (term.Parameter k))
at_is objects parameters k h = record {
  predicate = omega arith;
  arity = λ d e. ap (λ (x : PredicateDef). x.arity) (same_Some at_definition d e);
  terms = one Term (IsTermOf objects parameters) (term.Parameter k) (parameter_is objects parameters k h);
}

done_is : (objects parameters : ℕ) → IsLiftedOf definitions objects parameters done
done_is objects parameters = record {
  predicate = omega arith;
  arity = λ d e. ap (λ (x : PredicateDef). x.arity) (same_Some done_definition d e);
  terms = All-nil (IsTermOf objects parameters);
}

place_is : (types : List TypeDef) → 0 < length types → All (λ t. t < length types) place.types
place_is types h = one ℕ (λ t. t < length types) 0 h

hop_is : (types : List TypeDef) (objects : List ObjectDef) → 0 < length types →
    IsSchemaOf types objects definitions hop
hop_is types objects h = record {
  few_parameters = omega arith;
  few_literals = omega arith;
  typed = two Parameter (λ (p : Parameter). All (λ t. t < length types) p.types) place place
      (place_is types h) (place_is types h);
  literals = All-nil (IsLiteralOf definitions (length objects) 2);
  deletes = one Lifted (IsLiftedOf definitions (length objects) 2) (at_place (term.Parameter 0))
      (at_is (length objects) 2 0 (omega arith));
  adds = one Lifted (IsLiftedOf definitions (length objects) 2) (at_place (term.Parameter 1))
      (at_is (length objects) 2 1 (omega arith));
}

finish_is : (types : List TypeDef) (objects : List ObjectDef) → 0 < length types →
    IsSchemaOf types objects definitions finish
finish_is types objects h = record {
  few_parameters = omega arith;
  few_literals = omega arith;
  typed = one Parameter (λ (p : Parameter). All (λ t. t < length types) p.types) place (place_is types h);
  literals = All-nil (IsLiteralOf definitions (length objects) 1);
  deletes = one Lifted (IsLiftedOf definitions (length objects) 1) (at_place (term.Parameter 0))
      (at_is (length objects) 1 0 (omega arith));
  adds = one Lifted (IsLiftedOf definitions (length objects) 1) done (done_is (length objects) 1);
}

spread_is : (types : List TypeDef) (objects : List ObjectDef) → 0 < length types →
    IsSchemaOf types objects definitions spread
spread_is types objects h = record {
  few_parameters = omega arith;
  few_literals = omega arith;
  typed = two Parameter (λ (p : Parameter). All (λ t. t < length types) p.types) place place
      (place_is types h) (place_is types h);
  literals = All-nil (IsLiteralOf definitions (length objects) 2);
  deletes = two Lifted (IsLiftedOf definitions (length objects) 2) done (at_place (term.Parameter 0))
      (done_is (length objects) 2) (at_is (length objects) 2 0 (omega arith));
  adds = two Lifted (IsLiftedOf definitions (length objects) 2) (at_place (term.Parameter 1))
      (at_place (term.Parameter 0)) (at_is (length objects) 2 1 (omega arith))
      (at_is (length objects) 2 0 (omega arith));
}

pub types_well : (types : List TypeDef) (t : TypeDef) → types ≡ t ∷ [] → t.parents ≡ [] → AreTypes types
types_well types t are none = record {
  some = omega (arith, ap length are);
  many = omega (arith, ap length are);
  parents = All-same (λ (d : TypeDef). All (λ p. p < length types) d.parents) types (t ∷ []) are
      (one TypeDef (λ (d : TypeDef). All (λ p. p < length types) d.parents) t
      (All-same (λ p. p < length types) t.parents [] none (All-nil (λ p. p < length types))));
}

pub objects_well : (types : List TypeDef) (objects : List ObjectDef) → length objects < 2 ^ 32 →
    All (λ (o : ObjectDef). o ≡ plain) objects → AreObjects types objects
objects_well types objects few bare = record {
  many = few;
  typed = All-weaker (λ (o : ObjectDef). o ≡ plain) (λ (o : ObjectDef). All (λ t. t < length types) o.types)
      (λ o is. All-same (λ t. t < length types) o.types [] (ap (λ (x : ObjectDef). x.types) is)
      (All-nil (λ t. t < length types))) objects bare;
}

static : (p : ℕ) (d : PredicateDef) → slice_get definitions p ≡ Some d →
    d.is_static ≡ not (is_fluent schemas_of_places p)
static zero d e = ap (λ (x : PredicateDef). x.is_static) (sym (same_Some at_definition d e))
static (suc zero) d e = ap (λ (x : PredicateDef). x.is_static) (sym (same_Some link_definition d e))
static (suc (suc zero)) d e = ap (λ (x : PredicateDef). x.is_static) (sym (same_Some done_definition d e))
static (suc (suc (suc p))) d e = absurd (cc)

predicates_literal : ArePredicates schemas_of_places definitions
predicates_literal = record {
  many = omega arith;
  narrow = All-cons (λ (d : PredicateDef). d.arity ≤ 64) at_definition
      (link_definition ∷ done_definition ∷ []) (omega arith)
      (two PredicateDef (λ (d : PredicateDef). d.arity ≤ 64) link_definition done_definition (omega arith)
      (omega arith));
  static = static;
}

pub predicates_well : (schemas : List Schema) (predicates : List PredicateDef) →
    schemas ≡ schemas_of_places → predicates ≡ definitions → ArePredicates schemas predicates
predicates_well schemas predicates ss ps = rw (ss, ps) predicates_literal

pub schemas_well : (types : List TypeDef) (objects : List ObjectDef) (predicates : List PredicateDef)
    (schemas : List Schema) → 0 < length types →
    schemas ≡ schemas_of_places → predicates ≡ definitions →
    AreSchemas types objects predicates schemas
schemas_well types objects predicates schemas some ss ps = record {
  many = omega (arith, ap length ss);
  each = rw (ss, ps) (All-cons (IsSchemaOf types objects definitions) hop (finish ∷ spread ∷ [])
      (hop_is types objects some)
      (two Schema (IsSchemaOf types objects definitions) finish spread (finish_is types objects some)
      (spread_is types objects some)));
}

at_atom : (objects : List ObjectDef) (n : ℕ) → n < length objects →
    IsAtomOf objects definitions (atom_of 0 (n ∷ []))
at_atom objects n h = record {
  predicate = omega arith;
  arity = λ d e. ap (λ (x : PredicateDef). x.arity) (same_Some at_definition d e);
  within = one ℕ (λ o. o < length objects) n h;
}

link_atom : (objects : List ObjectDef) (a b : ℕ) → a < length objects → b < length objects →
    IsAtomOf objects definitions (atom_of 1 (a ∷ b ∷ []))
link_atom objects a b h k = record {
  predicate = omega arith;
  arity = λ d e. ap (λ (x : PredicateDef). x.arity) (same_Some link_definition d e);
  within = two ℕ (λ o. o < length objects) a b h k;
}

done_atom : (objects : List ObjectDef) → IsAtomOf objects definitions (atom_of 2 [])
done_atom objects = record {
  predicate = omega arith;
  arity = λ d e. ap (λ (x : PredicateDef). x.arity) (same_Some done_definition d e);
  within = All-nil (λ o. o < length objects);
}

pub init_well : (objects : List ObjectDef) (predicates : List PredicateDef) (init : List Atom) →
    2 ≤ length objects → predicates ≡ definitions → init ≡ atom_of 1 (0 ∷ 1 ∷ []) ∷ [] →
    AreInitial objects predicates init
init_well objects predicates init some ps is = record {
  each = rw (is, ps) (one Atom (IsAtomOf objects definitions) (atom_of 1 (0 ∷ 1 ∷ []))
      (link_atom objects 0 1 (omega arith) (omega arith)));
  distinct = rw is (λ i j d l m. absurd (omega arith));
}

pub goal_well : (objects : List ObjectDef) (predicates : List PredicateDef) (goal : List GoalLiteral)
    (back : Bool) → 2 ≤ length objects → predicates ≡ definitions → goal ≡ hop_goal back →
    IsGoalOf objects predicates goal
goal_well objects predicates goal back some ps is = record {
  many = omega (arith, ap length is);
  each = rw (is, ps) (
      All-cons P (literal_of 0 (1 ∷ []) true) (literal_of 0 (1 ∷ []) true ∷ literal_of 2 [] true ∷ links)
      (at_atom objects 1 (omega arith))
      (All-cons P (literal_of 0 (1 ∷ []) true) (literal_of 2 [] true ∷ links)
      (at_atom objects 1 (omega arith))
      (All-cons P (literal_of 2 [] true) links (done_atom objects)
      (two GoalLiteral P (literal_of 1 (0 ∷ 1 ∷ []) true) (literal_of 1 (1 ∷ 0 ∷ []) back)
      (link_atom objects 0 1 (omega arith) (omega arith))
      (link_atom objects 1 0 (omega arith) (omega arith))))));
}
  where
    P : GoalLiteral → Type 0
    P g = IsAtomOf objects definitions g.atom

    links : List GoalLiteral
    links = literal_of 1 (0 ∷ 1 ∷ []) true ∷ literal_of 1 (1 ∷ 0 ∷ []) back ∷ []
