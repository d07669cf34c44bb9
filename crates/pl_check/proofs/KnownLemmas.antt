-- What both files declare, as it is collected in loops.
use Rattle.std.proofs.Common.{◌≡◌, ◌+◌, ◌-◌, ◌<◌, ◌≤◌, ℕ, zero, suc, Bool, true, false, cond, List, [], ◌∷◌}
use Rattle.std.proofs.Common.{◌++◌, length, map, take, drop, get_or, filter, refl, sym, ◌∙◌, subst, ap, arith}
use Rattle.std.proofs.Common.{All, Bor}
use Rattle.std.proofs.lemmas.List.{length-map, length-append, length-drop, drop-map, get_or-map, map_push}
use Rattle.std.proofs.lemmas.List.{map_more, map-append, append-nil}
use Rattle.std.proofs.lemmas.List.Elements.{filter-append}
use Rattle.std.specs.Prelude.{codes}
use Rattle.pl_names.specs.Names.{texts, first_appearances}
use Rattle.pl_text.specs.declared.form.Form.{Form}
use Rattle.pl_text.specs.Trees.{Tree, word, list, Trees, end, more, tree_of, inside, members}
use Rattle.pl_check.specs.Elements.{trees, word_of, elements, head_word}
use Rattle.pl_check.specs.Known.{Known, known_of, first_section, type_names, object_occurrences}
use Rattle.pl_check.specs.TypedLists.{item_names}
use Rattle.pl_check.specs.Words.{is_name, is_variable, is_predicate_name}
use Rattle.pl_check.specs.Predicates.{declared_name, declared_arity, is_declaration, declarations}
use Rattle.pl_check.specs.Reading.{HasFew, HaveFew}

-- ---- few elements

pub few_elements : (tree : Tree) → HasFew tree → length (elements tree) ≤ 16777216
few_elements (word span) few = omega arith
few_elements (list span inner) few = few.0

few_members : (inner : Trees) → HaveFew inner → All HasFew (members inner)
few_members end few k d l = absurd (omega arith)
few_members (more tree rest) few zero d l = few.0
few_members (more tree rest) few (suc k) d l = few_members rest few.1 k d (omega arith)

pub few_inside : (tree : Tree) → HasFew tree → All HasFew (elements tree)
few_inside (word span) few = λ k d l. absurd (omega arith)
few_inside (list span inner) few = few_members inner few.1

-- the forms of a list among others with few elements
pub few_at : (forms : List Form) (i : ℕ) (form : Form) → i < length forms → form ≡ get_or forms i form →
    All HasFew (trees forms) → HasFew (tree_of form)
few_at forms i form l e few =
    let here = few i (tree_of form) (omega (arith, length-map forms tree_of)) in
    subst HasFew (get_or-map tree_of forms i form (tree_of form) l ∙ ap tree_of (sym e)) here

few_drop : (trees : List Tree) → All HasFew trees → All HasFew (drop 1 trees)
few_drop [] few k d l = absurd (omega arith)
few_drop (tree ∷ rest) few k d l = few (suc k) d (omega arith)

-- the elements of a list among others with few elements
pub few_parts : (forms : List Form) (i : ℕ) (form : Form) (parts : List Form) → i < length forms →
    form ≡ get_or forms i form → trees parts ≡ elements (tree_of form) →
    All HasFew (trees forms) → length parts ≤ 16777216
few_parts forms i form parts l e p few =
    let bound = few_elements (tree_of form) (few_at forms i form l e few) in
    omega (arith, bound, ap length p, length-map parts tree_of)

pub few_after : (forms : List Form) (i : ℕ) (form : Form) (parts after : List Form) → i < length forms →
    form ≡ get_or forms i form → trees parts ≡ elements (tree_of form) → after ≡ drop 1 parts →
    All HasFew (trees forms) → length after ≤ 16777216
few_after forms i form parts after l e p a few =
    let bound = few_parts forms i form parts l e p few in
    omega (arith, bound, ap length a, length-drop 1 parts)

pub few_inside_after : (forms : List Form) (i : ℕ) (form : Form) (parts after : List Form) →
    i < length forms → form ≡ get_or forms i form → trees parts ≡ elements (tree_of form) →
    after ≡ drop 1 parts → All HasFew (trees forms) → All HasFew (trees after)
few_inside_after forms i form parts after l e p a few =
    let all : All HasFew (drop 1 (elements (tree_of form))) = few_drop (elements (tree_of form))
    (few_inside (tree_of form) (few_at forms i form l e few)) in
    let same : drop 1 (elements (tree_of form)) ≡ trees after = ap (drop 1) (sym p) ∙
    drop-map tree_of 1 parts ∙ ap trees (sym a) in
    subst (All HasFew) same all

-- ---- the declarations of predicates

-- the names and arities of the declarations among the first i forms
pub record AreDeclared (text : List ℕ) (forms : List Form) (names : List (Bor (List ℕ)))
    (arities : List ℕ) (i : ℕ) : Type 0 where
  pub names_are : texts names ≡ map (declared_name text) (declarations text (trees (take i forms)))
  pub arities_are : arities ≡ map (declared_arity text) (declarations text (trees (take i forms)))
  pub few : length names ≤ i

-- the declarations up to the next form
declarations_more : (text : List ℕ) (forms : List Form) (i : ℕ) (form : Form) → i < length forms →
    form ≡ get_or forms i form → declarations text (trees (take (i + 1) forms)) ≡ declarations text
    (trees (take i forms)) ++ cond (is_declaration text (tree_of form)) (tree_of form ∷ []) []
declarations_more text forms i form l e =
    ap (declarations text) (map_more tree_of forms i form l ∙
    ap (λ f. trees (take i forms) ++ tree_of f ∷ []) (sym e))
    ∙ filter-append (is_declaration text) (trees (take i forms)) (tree_of form ∷ [])

pub declared_yes : (text : List ℕ) (forms : List Form) (i : ℕ) (form : Form) (parts again : List Form)
    (name : Bor (List ℕ)) (names names' : List (Bor (List ℕ))) (count : ℕ) (arities arities' : List ℕ) →
    i < length forms → form ≡ get_or forms i form → trees parts ≡ elements (tree_of form) →
    name.now ≡ head_word text (trees parts) → is_predicate_name name.now ≡ true →
    trees again ≡ elements (tree_of form) →
    count ≡ length (filter is_variable (map (word_of text) (trees again))) → names' ≡ names ++ name ∷ [] →
    arities' ≡ arities ++ count ∷ [] → AreDeclared text forms names arities i →
    AreDeclared text forms names' arities' (i + 1)
unfolding is_declaration declared_arity
declared_yes text forms i form parts again name names names' count arities arities' l e p n t a c
    named counted up = record {
      names_are = ap texts named ∙ map_push (λ (x : Bor (List ℕ)). x.now) names name ∙
          (rw (up.names_are, name_is) refl) ∙
          sym (map-append (declared_name text) (declarations text (trees (take i forms))) (tree_of form ∷ []))
          ∙
          sym (ap (map (declared_name text)) more);
      arities_are = counted ∙ (rw (up.arities_are, count_is) refl) ∙
          sym (map-append (declared_arity text) (declarations text (trees (take i forms)))
          (tree_of form ∷ [])) ∙
          sym (ap (map (declared_arity text)) more);
      few = omega (arith, up.few, ap length named, length-append names (name ∷ []));
    }
  where
    name_is : name.now ≡ declared_name text (tree_of form)
    name_is = n ∙ ap (head_word text) p

    passes : is_declaration text (tree_of form) ≡ true
    passes = ap is_predicate_name (sym name_is) ∙ t

    more : declarations text (trees (take (i + 1) forms)) ≡ declarations text (trees (take i forms)) ++
        tree_of form ∷ []
    more = declarations_more text forms i form l e ∙
        ap (λ b. declarations text (trees (take i forms)) ++ cond b (tree_of form ∷ []) []) passes

    count_is : count ≡ declared_arity text (tree_of form)
    count_is = c ∙ ap (λ list. length (filter is_variable (map (word_of text) list))) a

pub declared_no : (text : List ℕ) (forms : List Form) (i : ℕ) (form : Form) (parts : List Form)
    (name : List ℕ) (names names' : List (Bor (List ℕ))) (arities arities' : List ℕ) → i < length forms →
    form ≡ get_or forms i form → trees parts ≡ elements (tree_of form) → name ≡ head_word text (trees parts) →
    is_predicate_name name ≡ false → names' ≡ names → arities' ≡ arities →
    AreDeclared text forms names arities i → AreDeclared text forms names' arities' (i + 1)
unfolding is_declaration
declared_no text forms i form parts name names names' arities arities' l e p n f named counted up = record {
  names_are = ap texts named ∙ up.names_are ∙ sym (ap (map (declared_name text)) more);
  arities_are = counted ∙ up.arities_are ∙ sym (ap (map (declared_arity text)) more);
  few = omega (arith, up.few, ap length named);
}
  where
    fails : is_declaration text (tree_of form) ≡ false
    fails = ap is_predicate_name (sym (n ∙ ap (head_word text) p)) ∙ f

    more : declarations text (trees (take (i + 1) forms)) ≡ declarations text (trees (take i forms))
    more = declarations_more text forms i form l e ∙
        ap (λ b. declarations text (trees (take i forms)) ++ cond b (tree_of form ∷ []) []) fails ∙
        append-nil (declarations text (trees (take i forms)))

-- ---- all that is known

abbrev pub known_record : List (List ℕ) → List (List ℕ) → List (List ℕ) → List ℕ → Known
known_record types objects predicates arities =
    record { types = types; objects = objects; predicates = predicates; arities = arities }

pub known_made : (domain problem : List ℕ) (domain_sections problem_sections types_in constants_in objects_in
    declared_in : List Tree) (types objects predicates : List (List ℕ)) (arities : List ℕ) →
    types_in ≡ first_section domain (codes ":types") domain_sections →
    constants_in ≡ first_section domain (codes ":constants") domain_sections →
    objects_in ≡ first_section problem (codes ":objects") problem_sections →
    declared_in ≡ first_section domain (codes ":predicates") domain_sections →
    types ≡ codes "object" ∷ filter is_name (map (word_of domain) types_in) →
    objects ≡ item_names domain constants_in ++ item_names problem objects_in →
    predicates ≡ map (declared_name domain) (declarations domain declared_in) →
    arities ≡ map (declared_arity domain) (declarations domain declared_in) →
    known_record (first_appearances types) (first_appearances objects) predicates arities ≡ known_of domain
    domain_sections problem problem_sections
unfolding type_names object_occurrences
known_made domain problem domain_sections problem_sections types_in constants_in objects_in declared_in types
    objects predicates arities ti ci oi di ts os ps counts =
    rw (ts, os, ps, counts, ti, ci, oi, di) refl
