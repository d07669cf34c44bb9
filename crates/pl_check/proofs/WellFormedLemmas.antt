-- Two files without a fault state a well-formed task.
use Rattle.std.proofs.Common.{◌≡◌, ◌≢◌, ◌+◌, ◌^◌, ◌<◌, ◌≤◌, ℕ, zero, suc, Bool, true, false, not, cond, List}
use Rattle.std.proofs.Common.{[], ◌∷◌, ◌++◌, map, filter, drop, length, get_or, slice_get, Option, Some, None}
use Rattle.std.proofs.Common.{codes, bytes_eq, All, AllPairs, refl, sym, ap, ◌∙◌, subst, arith}
use Rattle.std.specs.List.{flat_map, filter_map, cons_option}
use Rattle.std.proofs.lemmas.Bool.{false≢true, not-true}
use Rattle.std.proofs.lemmas.List.{length-map}
use Rattle.std.proofs.lemmas.List.Elements.{All-nil, All-cons, All-head, All-tail, All-map, All-weaker}
use Rattle.std.proofs.lemmas.List.Elements.{All-filter, filter_passes}
use Rattle.pl_names.specs.Names.{number_among, first_appearances}
use Rattle.pl_task.specs.declared.data.Atom.{Atom}
use Rattle.pl_task.specs.declared.data.GoalLiteral.{GoalLiteral}
use Rattle.pl_task.specs.declared.data.Lifted.{Lifted}
use Rattle.pl_task.specs.declared.data.Literal.{Literal}
use Rattle.pl_task.specs.declared.data.Literal.TheVariants as literal
use Rattle.pl_task.specs.declared.data.ObjectDef.{ObjectDef}
use Rattle.pl_task.specs.declared.data.PredicateDef.{PredicateDef}
use Rattle.pl_task.specs.declared.data.Schema.{Schema}
use Rattle.pl_task.specs.declared.data.Term.{Term}
use Rattle.pl_task.specs.declared.data.Term.TheVariants as term
use Rattle.pl_task.specs.declared.data.TypeDef.{TypeDef}
use Rattle.pl_task.specs.States.{is_same}
use Rattle.pl_task.specs.WellFormed.{IsTermOf, IsLiftedOf, IsLiteralOf, IsSchemaOf, IsAtomOf, is_fluent}
use Rattle.pl_task.proofs.StateLemmas.{is_same-itself}
use Rattle.pl_text.specs.Trees.{Tree}
use Rattle.pl_check.specs.declared.role.FileRole.TheVariants.{Domain, Problem}
use Rattle.pl_check.specs.Elements.{elements}
use Rattle.pl_check.specs.Files.{file_faults}
use Rattle.pl_check.specs.Known.{Known, known_of, sections, has_key, first_section, sections_of, all_after}
use Rattle.pl_check.specs.Known.{object_occurrences}
use Rattle.pl_check.specs.Literals as lit
use Rattle.pl_check.specs.Literals.{lifted_of, literals_of, ground, ground_atom, wanted}
use Rattle.pl_check.specs.Made.{stated_types, stated_objects, AreParts}
use Rattle.pl_check.specs.Predicates.{is_declaration, declarations, declared_name, declared_arity}
use Rattle.pl_check.specs.Sections.{problem_scope, sections_faults}
use Rattle.pl_check.specs.Stated.{types_of, type_of, object_of, stated_schema, predicates_from, once}
use Rattle.pl_check.specs.Terms.{Scope, basic_faults}
use Rattle.pl_check.specs.Conditions.{effect_faults}
use Rattle.pl_check.specs.TypedLists.{Item, typed_items, type_numbers}
use Rattle.pl_check.proofs.RangeLemmas.{all_found, all_flat, all_any, predicate_static, predicates_few}
use Rattle.pl_check.proofs.RangeLemmas.{predicates_narrow, atom_ok, condition_ok}
use Rattle.pl_check.proofs.ActionRangeLemmas.{filter_few, types_within}
use Rattle.pl_check.proofs.SectionRangeLemmas.{arities_few, predicates_none, init_none, goal_none}
use Rattle.pl_check.proofs.SectionRangeLemmas.{schemas_are, no_earlier, sections_none}
use Rattle.pl_check.proofs.WeightLemmas.{total, total_sections, total_length, total_first, total_after}
use Rattle.pl_check.proofs.WeightLemmas.{literals_few, found_few, firsts_few, types_few, types_some}
use Rattle.pl_check.proofs.WeightLemmas.{objects_few}

-- ---- pairs of a list

pairs_cons : (a : Atom) (atoms : List Atom) → All (λ b. a ≢ b) atoms →
    AllPairs (λ (a b : Atom). a ≢ b) atoms → AllPairs (λ (a b : Atom). a ≢ b) (a ∷ atoms)
pairs_cons a atoms first rest zero zero d h k = absurd (omega arith)
pairs_cons a atoms first rest zero (suc j) d h k = first j d (omega arith)
pairs_cons a atoms first rest (suc i) zero d h k = absurd (omega arith)
pairs_cons a atoms first rest (suc i) (suc j) d h k = rest i j d (omega arith) (omega arith)

pairs_head : (a : Atom) (atoms : List Atom) → AllPairs (λ (a b : Atom). a ≢ b) (a ∷ atoms) →
    All (λ b. a ≢ b) atoms
pairs_head a atoms h j d k = h zero (suc j) d (omega arith) (omega arith)

pairs_tail : (a : Atom) (atoms : List Atom) → AllPairs (λ (a b : Atom). a ≢ b) (a ∷ atoms) →
    AllPairs (λ (a b : Atom). a ≢ b) atoms
pairs_tail a atoms h i j d k l = h (suc i) (suc j) d (omega arith) (omega arith)

-- ---- atoms that are listed once

once_all_of : (P : Atom → Type 0) (atoms : List Atom) → All P atoms → All P (once atoms)
once_all_of P [] h = h
once_all_of P (a ∷ atoms) h =
    All-cons P a (filter (λ b. not (is_same a b)) (once atoms)) (All-head P a atoms h)
    (All-filter (λ b. not (is_same a b)) P (once atoms) (once_all_of P atoms (All-tail P a atoms h)))

-- a filter keeps what differs apart
apart_filtered : (p : Atom → Bool) (atoms : List Atom) → AllPairs (λ (a b : Atom). a ≢ b) atoms →
    AllPairs (λ (a b : Atom). a ≢ b) (filter p atoms)
apart_filtered p [] h = h
apart_filtered p (a ∷ atoms) h =
    by_test (p a) (apart_filtered p atoms (pairs_tail a atoms h))
    (All-filter p (λ b. a ≢ b) atoms (pairs_head a atoms h))
  where
    by_test : (t : Bool) → AllPairs (λ (a b : Atom). a ≢ b) (filter p atoms) →
        All (λ b. a ≢ b) (filter p atoms) →
        AllPairs (λ (a b : Atom). a ≢ b) (cond t (a ∷ filter p atoms) (filter p atoms))
    by_test true rest first = pairs_cons a (filter p atoms) first rest
    by_test false rest first = rest

once_apart : (atoms : List Atom) → AllPairs (λ (a b : Atom). a ≢ b) (once atoms)
once_apart [] = λ i j d h k. absurd (omega arith)
once_apart (a ∷ atoms) =
    pairs_cons a (filter (λ b. not (is_same a b)) (once atoms))
    (All-weaker (λ b. not (is_same a b) ≡ true) (λ b. a ≢ b)
    (λ b t is. false≢true (sym (not-true (is_same a b) t) ∙
    subst (λ x. is_same a x ≡ true) is (is_same-itself a)))
    (filter (λ b. not (is_same a b)) (once atoms)) (filter_passes (λ b. not (is_same a b)) (once atoms)))
    (apart_filtered (λ b. not (is_same a b)) (once atoms) (once_apart atoms))

-- ---- atoms without parameters

-- a term without parameters is an object
object_is : (objects : ℕ) (t : Term) → IsTermOf objects 0 t → (o : ℕ) × (t ≡ term.Object o) × (o < objects)
object_is objects (term.Parameter n) h = absurd (none (h.parameter n refl))
  where
    none : n < 0 → ⊥
    none l = omega arith
object_is objects (term.Object n) h = (n, refl, h.object n refl)

objects_many : (objects : ℕ) (terms : List Term) → All (IsTermOf objects 0) terms →
    length (filter_map lit.object_of terms) ≡ length terms
objects_many objects [] h = refl
objects_many objects (term.Parameter n ∷ terms) h =
    absurd (none (All-head (IsTermOf objects 0) (term.Parameter n) terms h))
  where
    none : IsTermOf objects 0 (term.Parameter n) → ⊥
    none k = (let l = k.parameter n refl in omega (arith, l))
objects_many objects (term.Object n ∷ terms) h =
    ap suc (objects_many objects terms (All-tail (IsTermOf objects 0) (term.Object n) terms h))

object_within : (objects : ℕ) (t : Term) (o : ℕ) → IsTermOf objects 0 t →
    lit.object_of t ≡ Some o → o < objects
object_within objects (term.Parameter n) o h is = cc
object_within objects (term.Object n) o h is = (let same : n ≡ o = cc in
    subst (λ k. k < objects) same (h.object n refl))

ground_ok : (predicates : List PredicateDef) (objects : List ObjectDef) (many : ℕ) (a : Lifted) →
    length objects ≡ many →
    IsLiftedOf predicates many 0 a → IsAtomOf objects predicates (ground a)
ground_ok predicates objects many a is h = record {
  predicate = h.predicate;
  arity = λ d at. objects_many many a.terms h.terms ∙ h.arity d at;
  within = subst (λ k. All (λ o. o < k) (filter_map lit.object_of a.terms)) (sym is)
      (all_found lit.object_of (IsTermOf many 0) (λ o. o < many) (λ t o k e. object_within many t o k e)
      a.terms h.terms);
}

wanted_ok : (predicates : List PredicateDef) (objects : List ObjectDef) (many : ℕ) → length objects ≡ many →
    (l : Literal) (g : GoalLiteral) → IsLiteralOf predicates many 0 l → wanted l ≡ Some g →
    IsAtomOf objects predicates g.atom
wanted_ok predicates objects many is (literal.Atom a) g h e =
    let made : GoalLiteral = record { atom = ground a; wanted = true } in
    let same : made ≡ g = cc in
    subst (λ (x : GoalLiteral). IsAtomOf objects predicates x.atom) same
    (ground_ok predicates objects many a is (h.atom a refl))
wanted_ok predicates objects many is (literal.NotAtom a) g h e =
    let made : GoalLiteral = record { atom = ground a; wanted = false } in
    let same : made ≡ g = cc in
    subst (λ (x : GoalLiteral). IsAtomOf objects predicates x.atom) same
    (ground_ok predicates objects many a is (h.not_atom a refl))
wanted_ok predicates objects many is (literal.Equal x y) g h e = cc
wanted_ok predicates objects many is (literal.NotEqual x y) g h e = cc

-- ---- types

types_of_within : (types : List (List ℕ)) (found : List Item) (name : List ℕ) →
    All (λ t. t < length types) (types_of types found name)
types_of_within types found name =
    all_flat (λ (i : Item). type_numbers types i.types) (λ i. Unit {0}) (λ t. t < length types)
    (λ i _. types_within types i.types) (filter (λ (i : Item). bytes_eq i.name name) found) (all_any _)

-- ---- the whole

module _ (domain problem : List ℕ) (domain_forms problem_forms : List Tree)
    (domain_size problem_size : ℕ) where
  abbrev in_domain : List Tree
  in_domain = sections domain_forms

  abbrev in_problem : List Tree
  in_problem = sections problem_forms

  abbrev known : Known
  known = known_of domain in_domain problem in_problem

  pub well_formed : (schemas : List Schema) (init : List Atom) (goal : List Literal) →
      total domain_forms ≤ 16777216 → total problem_forms ≤ 16777216 →
      file_faults Domain domain known domain_size domain_forms ≡ [] →
      file_faults Problem problem known problem_size problem_forms ≡ [] →
      schemas ≡ map (stated_schema domain known) (sections_of domain (codes ":action") in_domain) →
      init ≡ map (ground_atom (problem_scope problem known)) (all_after problem (codes ":init") in_problem) →
      goal ≡ flat_map (literals_of (problem_scope problem known))
      (all_after problem (codes ":goal") in_problem) →
      AreParts (stated_types domain in_domain known)
      (stated_objects domain in_domain problem in_problem known)
      (predicates_from schemas 0 known.predicates known.arities) schemas (once init) (filter_map wanted goal)
  well_formed schemas init goal domain_few problem_few domain_none problem_none are_schemas is_init is_goal =
      let types = stated_types domain in_domain known in
      let objects = stated_objects domain in_domain problem in_problem known in
      let predicates = predicates_from schemas 0 known.predicates known.arities in
      let scope = problem_scope problem known in
      let domain_sections = sections_none Domain domain known domain_size domain_forms domain_none in
      let problem_sections = sections_none Problem problem known problem_size problem_forms problem_none in
      let type_items = typed_items domain false (first_section domain (codes ":types") in_domain) in
      let object_items = typed_items domain false (first_section domain (codes ":constants") in_domain) ++
      typed_items problem false (first_section problem (codes ":objects") in_problem) in
      let declared = declarations domain (first_section domain (codes ":predicates") in_domain) in
      let actions = sections_of domain (codes ":action") in_domain in
      let goals = all_after problem (codes ":goal") in_problem in
      let inits = all_after problem (codes ":init") in_problem in
      let as_many_types : length types ≡ length known.types =
      length-map known.types (type_of known.types type_items) in
      let as_many_objects : length objects ≡ length known.objects =
      length-map known.objects (object_of known.types object_items) in
      let domain_most = total_sections domain_forms in
      let problem_most = total_sections problem_forms in
      record {
        types_ok = record {
          some = omega (arith, as_many_types, types_some domain in_domain);
          many = omega (arith, as_many_types, types_few domain in_domain, domain_most, domain_few);
          parents = All-map (λ (t : TypeDef). All (λ p. p < length types) t.parents)
              (type_of known.types type_items) known.types
              (λ k d w. subst (λ m. All (λ p. p < m)
              (types_of known.types type_items (get_or known.types k d))) (sym as_many_types)
              (types_of_within known.types type_items (get_or known.types k d)));
        };
        objects_ok = record {
          many = omega (
            arith,
            as_many_objects,
            firsts_few (object_occurrences domain in_domain problem in_problem),
            objects_few domain
                in_domain problem in_problem,
            domain_most,
            problem_most,
            domain_few,
            problem_few,
          );
          typed = All-map (λ (o : ObjectDef). All (λ t. t < length types) o.types)
              (object_of known.types object_items) known.objects
              (λ k d w. subst (λ m. All (λ p. p < m)
              (types_of known.types object_items (get_or known.objects k d))) (sym as_many_types)
              (types_of_within known.types object_items (get_or known.objects k d)));
        };
        predicates_ok = record {
          many = omega (
            arith,
            predicates_few schemas 0 known.predicates known.arities,
            length-map declared
                (declared_name domain),
            filter_few (is_declaration domain)
                (first_section domain (codes ":predicates") in_domain),
            total_length (first_section domain (codes ":predicates") in_domain),
            total_first domain
                (codes ":predicates") in_domain,
            domain_most,
            domain_few,
          );
          narrow = predicates_narrow schemas 0 known.predicates known.arities
              (arities_few domain known.types [] (first_section domain (codes ":predicates") in_domain)
              (predicates_none domain known no_earlier in_domain domain_sections));
          static = λ p d at. (let zero_more : 0 + p ≡ p = omega arith in
              subst (λ k. d.is_static ≡ not (is_fluent schemas k)) zero_more
              (predicate_static schemas 0 known.predicates known.arities p d at));
        };
        schemas_ok = record {
          many = omega (
            arith,
            ap length are_schemas,
            length-map actions (stated_schema domain known),
            filter_few (has_key domain (codes ":action")) in_domain,
            total_length in_domain,
            domain_most,
            domain_few,
          );
          each = subst (All (IsSchemaOf types objects predicates)) (sym are_schemas)
              (schemas_are domain known schemas types objects as_many_types as_many_objects no_earlier
              in_domain domain_sections);
        };
        init_ok = record {
          each = once_all_of (IsAtomOf objects predicates) init
              (subst (All (IsAtomOf objects predicates)) (sym is_init)
              (All-map (IsAtomOf objects predicates) (ground_atom scope) inits
              (All-weaker (λ tree. basic_faults scope false tree ≡ [])
              (λ tree. IsAtomOf objects predicates (ground_atom scope tree))
              (λ tree none. ground_ok predicates objects (length known.objects)
              (lifted_of scope (elements tree)) as_many_objects
              (atom_ok scope schemas 0 (omega arith) tree none))
              inits (init_none problem known no_earlier in_problem problem_sections))));
          distinct = once_apart init;
        };
        goal_ok = record {
          many = omega (
            arith,
            found_few wanted goal,
            ap length is_goal,
            literals_few scope goals,
            total_after problem (codes ":goal") in_problem,
            problem_most,
            problem_few,
          );
          each = all_found wanted (IsLiteralOf predicates (length known.objects) 0)
              (λ (g : GoalLiteral). IsAtomOf objects predicates g.atom)
              (λ l g k e. wanted_ok predicates objects (length known.objects) as_many_objects l g k e) goal
              (subst (All (IsLiteralOf predicates (length known.objects) 0)) (sym is_goal)
              (all_flat (literals_of scope) (λ tree. effect_faults scope tree ≡ [])
              (IsLiteralOf predicates (length known.objects) 0)
              (λ tree none. condition_ok scope schemas 0 (omega arith) false tree none) goals
              (goal_none problem known no_earlier in_problem problem_sections)));
        };
      }
