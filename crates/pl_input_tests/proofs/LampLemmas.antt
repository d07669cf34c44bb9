-- The task of the tests is well-formed.
use Rattle.std.proofs.Common.{◌≡◌, ℕ, ◌<◌, ◌≤◌, ◌^◌, zero, suc, not, true, false, List, [], ◌∷◌, length, sym}
use Rattle.std.proofs.Common.{ap, subst, arith, Some, slice_get, All}
use Rattle.std.proofs.lemmas.List.Elements.{All-nil, All-same, All-weaker}
use Rattle.pl_task.specs.declared.data.GoalLiteral.{GoalLiteral}
use Rattle.pl_task.specs.declared.data.Lifted.{Lifted}
use Rattle.pl_task.specs.declared.data.Literal.{Literal}
use Rattle.pl_task.specs.declared.data.Literal.TheVariants as literal
use Rattle.pl_task.specs.declared.data.ObjectDef.{ObjectDef}
use Rattle.pl_task.specs.declared.data.Parameter.{Parameter}
use Rattle.pl_task.specs.declared.data.PredicateDef.{PredicateDef}
use Rattle.pl_task.specs.declared.data.Schema.{Schema}
use Rattle.pl_task.specs.declared.data.Term.{Term}
use Rattle.pl_task.specs.declared.data.Term.TheVariants as term
use Rattle.pl_task.specs.declared.data.TypeDef.{TypeDef}
use Rattle.pl_task.specs.WellFormed.{AreTypes, AreObjects, ArePredicates, AreSchemas, IsGoalOf, IsSchemaOf}
use Rattle.pl_task.specs.WellFormed.{IsLiteralOf, IsLiftedOf, IsTermOf, IsAtomOf, is_fluent}
use Rattle.pl_samples.proofs.WellFormed.{one, two}
use Rattle.pl_input_tests.specs.Lamps.{on, on_definition, lamp, light, pass}

parameter_is : (objects parameters k : ℕ) → k < parameters → IsTermOf objects parameters (term.Parameter k)
parameter_is objects parameters k h = record {
  parameter = λ n e. (let same : k ≡ n = cc in omega arith);
  object = λ n e. absurd (cc);
}

on_is : (objects parameters k : ℕ) → k < parameters →
    IsLiftedOf (on_definition ∷ []) objects parameters (on (term.Parameter k))
on_is objects parameters k h = record {
  predicate = omega arith;
  arity = λ d e. (let same : on_definition ≡ d = cc in ap (λ (x : PredicateDef). x.arity) same);
  terms = one Term (IsTermOf objects parameters) (term.Parameter k) (parameter_is objects parameters k h);
}

lit_is : (objects parameters k : ℕ) → k < parameters →
    IsLiteralOf (on_definition ∷ []) objects parameters (literal.Atom (on (term.Parameter k)))
lit_is objects parameters k h = record {
  atom = λ a e. (let same : on (term.Parameter k) ≡ a = cc in
      subst (IsLiftedOf (on_definition ∷ []) objects parameters) same (on_is objects parameters k h));
  not_atom = λ a e. absurd (cc);
  equal_left = λ a b e. absurd (cc);
  equal_right = λ a b e. absurd (cc);
  not_equal_left = λ a b e. absurd (cc);
  not_equal_right = λ a b e. absurd (cc);
}

apart_is : (objects parameters j k : ℕ) → j < parameters → k < parameters →
    IsLiteralOf (on_definition ∷ []) objects parameters
    (literal.NotEqual (term.Parameter j) (term.Parameter k))
apart_is objects parameters j k p q = record {
  atom = λ a e. absurd (cc);
  not_atom = λ a e. absurd (cc);
  equal_left = λ a b e. absurd (cc);
  equal_right = λ a b e. absurd (cc);
  not_equal_left = λ a b e. (let same : term.Parameter j ≡ a = cc in
      subst (IsTermOf objects parameters) same (parameter_is objects parameters j p));
  not_equal_right = λ a b e. (let same : term.Parameter k ≡ b = cc in
      subst (IsTermOf objects parameters) same (parameter_is objects parameters k q));
}

lamp_is : (types : List TypeDef) → 0 < length types → All (λ t. t < length types) lamp.types
lamp_is types h = one ℕ (λ t. t < length types) 0 h

light_is : (types : List TypeDef) (objects : List ObjectDef) → 0 < length types →
    IsSchemaOf types objects (on_definition ∷ []) light
light_is types objects h = record {
  few_parameters = omega arith;
  few_literals = omega arith;
  typed = one Parameter (λ (p : Parameter). All (λ t. t < length types) p.types) lamp (lamp_is types h);
  literals = All-nil (IsLiteralOf (on_definition ∷ []) (length objects) 1);
  deletes = All-nil (IsLiftedOf (on_definition ∷ []) (length objects) 1);
  adds = one Lifted (IsLiftedOf (on_definition ∷ []) (length objects) 1) (on (term.Parameter 0))
      (on_is (length objects) 1 0 (omega arith));
}

pass_is : (types : List TypeDef) (objects : List ObjectDef) → 0 < length types →
    IsSchemaOf types objects (on_definition ∷ []) pass
pass_is types objects h = record {
  few_parameters = omega arith;
  few_literals = omega arith;
  typed = two Parameter (λ (p : Parameter). All (λ t. t < length types) p.types) lamp lamp
      (lamp_is types h) (lamp_is types h);
  literals = two Literal (IsLiteralOf (on_definition ∷ []) (length objects) 2)
      (literal.Atom (on (term.Parameter 0))) (literal.NotEqual (term.Parameter 0) (term.Parameter 1))
      (lit_is (length objects) 2 0 (omega arith))
      (apart_is (length objects) 2 0 1 (omega arith) (omega arith));
  deletes = one Lifted (IsLiftedOf (on_definition ∷ []) (length objects) 2) (on (term.Parameter 0))
      (on_is (length objects) 2 0 (omega arith));
  adds = one Lifted (IsLiftedOf (on_definition ∷ []) (length objects) 2) (on (term.Parameter 1))
      (on_is (length objects) 2 1 (omega arith));
}

pub types_well : (types : List TypeDef) (t : TypeDef) → types ≡ t ∷ [] → t.parents ≡ [] → AreTypes types
types_well types t are none = record {
  some = omega (arith, ap length are);
  many = omega (arith, ap length are);
  parents = All-same (λ (d : TypeDef). All (λ p. p < length types) d.parents) types (t ∷ []) are
      (one TypeDef (λ (d : TypeDef). All (λ p. p < length types) d.parents) t
      (All-same (λ p. p < length types) t.parents [] none (All-nil (λ p. p < length types))));
}

pub objects_well : (types : List TypeDef) (objects : List ObjectDef) → length objects < 2 ^ 32 →
    All (λ (o : ObjectDef). o.types ≡ []) objects → AreObjects types objects
objects_well types objects few plain = record {
  many = few;
  typed = All-weaker (λ (o : ObjectDef). o.types ≡ [])
      (λ (o : ObjectDef). All (λ t. t < length types) o.types)
      (λ o none. All-same (λ t. t < length types) o.types [] none (All-nil (λ t. t < length types))) objects
      plain;
}

fluent : (p : ℕ) (d : PredicateDef) → slice_get (on_definition ∷ []) p ≡ Some d →
    d.is_static ≡ not (is_fluent (light ∷ pass ∷ []) p)
fluent zero d e = let same : on_definition ≡ d = cc in ap (λ (x : PredicateDef). x.is_static) (sym same)
fluent (suc p) d e = absurd (cc)

predicates_literal : ArePredicates (light ∷ pass ∷ []) (on_definition ∷ [])
predicates_literal = record {
  many = omega arith;
  narrow = one PredicateDef (λ (d : PredicateDef). d.arity ≤ 64) on_definition (omega arith);
  static = fluent;
}

pub predicates_well : (schemas : List Schema) (predicates : List PredicateDef) → schemas ≡ light ∷ pass ∷ [] →
    predicates ≡ on_definition ∷ [] → ArePredicates schemas predicates
predicates_well schemas predicates ss ps = rw (ss, ps) predicates_literal

pub schemas_well : (types : List TypeDef) (objects : List ObjectDef) (predicates : List PredicateDef)
    (schemas : List Schema) → 0 < length types →
    schemas ≡ light ∷ pass ∷ [] → predicates ≡ on_definition ∷ [] →
    AreSchemas types objects predicates schemas
schemas_well types objects predicates schemas some ss ps = record {
  many = omega (arith, ap length ss);
  each = rw (ss, ps) (two Schema (IsSchemaOf types objects (on_definition ∷ [])) light pass
      (light_is types objects some) (pass_is types objects some));
}

lamp_atom : (objects : List ObjectDef) (n : ℕ) → n < length objects →
    IsAtomOf objects (on_definition ∷ []) (record { predicate = 0; objects = n ∷ [] })
lamp_atom objects n h = record {
  predicate = omega arith;
  arity = λ d e. (let same : on_definition ≡ d = cc in ap (λ (x : PredicateDef). x.arity) same);
  within = one ℕ (λ o. o < length objects) n h;
}

pub goal_well : (objects : List ObjectDef) (predicates : List PredicateDef) (goal : List GoalLiteral) →
    2 ≤ length objects → predicates ≡ on_definition ∷ [] →
    goal ≡ record { atom = record { predicate = 0; objects = 1 ∷ [] }; wanted = true } ∷
    record { atom = record { predicate = 0; objects = 0 ∷ [] }; wanted = false } ∷ [] →
    IsGoalOf objects predicates goal
goal_well objects predicates goal some ps gs = record {
  many = omega (arith, ap length gs);
  each = rw (gs, ps) (two GoalLiteral (λ (g : GoalLiteral). IsAtomOf objects (on_definition ∷ []) g.atom)
      (record { atom = record { predicate = 0; objects = 1 ∷ [] }; wanted = true })
      (record { atom = record { predicate = 0; objects = 0 ∷ [] }; wanted = false })
      (lamp_atom objects 1 (omega arith)) (lamp_atom objects 0 (omega arith)));
}
