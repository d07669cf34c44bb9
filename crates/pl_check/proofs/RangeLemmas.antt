-- Forms without a fault state terms, atoms and literals of the task.
use Rattle.std.proofs.Common.{◌≡◌, ◌==◌, ◌+◌, ◌<◌, ◌≤◌, ℕ, zero, suc, Bool, true, false, not, cond, ◌||◌}
use Rattle.std.proofs.Common.{◌&&◌, List, [], ◌∷◌, ◌++◌, map, drop, length, slice_get, Option, Some, None}
use Rattle.std.proofs.Common.{option_map, option_and_then, is_none, All, refl, sym, ap, ◌∙◌, subst, arith}
use Rattle.std.specs.Prelude.{unwrap_or}
use Rattle.std.specs.List.{flat_map, filter_map, cons_option}
use Rattle.std.proofs.lemmas.Bool.{false≢true, not-true, not-false, eqb-true}
use Rattle.std.proofs.lemmas.List.Elements.{All-nil, All-cons, All-head, All-tail, All-append, All-map}
use Rattle.std.proofs.lemmas.List.Elements.{All-weaker}
use Rattle.std.proofs.lemmas.Option.{slice_get_within}
use Rattle.pl_names.specs.Names.{number_among}
use Rattle.pl_names.proofs.Numbers.{number_place}
use Rattle.pl_task.specs.declared.data.Lifted.{Lifted}
use Rattle.pl_task.specs.declared.data.Literal.{Literal}
use Rattle.pl_task.specs.declared.data.Literal.TheVariants as literal
use Rattle.pl_task.specs.declared.data.PredicateDef.{PredicateDef}
use Rattle.pl_task.specs.declared.data.Schema.{Schema}
use Rattle.pl_task.specs.declared.data.Term.{Term}
use Rattle.pl_task.specs.declared.data.Term.TheVariants as term
use Rattle.pl_task.specs.WellFormed.{IsTermOf, IsLiftedOf, IsLiteralOf, is_fluent}
use Rattle.pl_text.specs.Trees.{Tree, word, list, Trees, end, more, members}
use Rattle.pl_text.specs.declared.form.Span.{Span}
use Rattle.pl_check.specs.declared.fault.FaultKind.TheVariants as kind
use Rattle.pl_check.specs.declared.head.Head.{Head}
use Rattle.pl_check.specs.declared.head.Head.TheVariants.{Nothing, NoName, And, Not, Equals, Reserved, Name}
use Rattle.pl_check.specs.declared.reading.Fault.{Fault}
use Rattle.pl_check.specs.Elements.{place, is_list, word_of, elements, head_word}
use Rattle.pl_check.specs.Words.{is_name, is_variable}
use Rattle.pl_check.specs.FaultLists.{fault_if, or_inside}
use Rattle.pl_check.specs.Terms.{Scope, head_of, term_named, term_of, term_faults, arity_of, atom_own}
use Rattle.pl_check.specs.Terms.{atom_faults, basic_by, basic_own, terms_faults, basic_faults}
use Rattle.pl_check.specs.Conditions.{condition_by, condition_own, by_head, condition_faults}
use Rattle.pl_check.specs.Conditions.{conjuncts_faults}
use Rattle.pl_check.specs.Literals.{terms_of, lifted_of, equality_of, basic_literal_by, basic_literal}
use Rattle.pl_check.specs.Literals.{negated, literals_of, conjuncts_literals}
use Rattle.pl_check.specs.Stated.{predicates_from}
use Rattle.pl_check.proofs.NoFaultLemmas.{empty_left, empty_right, empty_own, empty_inside, passes}
use Rattle.pl_check.proofs.NoFaultLemmas.{each_empty}

-- ---- numbers

pub number_within : (names : List (List ℕ)) (name : List ℕ) (n : ℕ) → number_among names name ≡ Some n →
    n < length names
number_within names name n h = slice_get_within names n name (number_place names name n h)

-- what a filter finds has P, where all that it is found from has Q
module _ {X Y : Type 0} (f : X → Option Y) (Q : X → Type 0) (P : Y → Type 0) (step : (x : X) (y : Y) → Q x →
    f x ≡ Some y → P y) where
  pub all_found : (xs : List X) → All Q xs → All P (filter_map f xs)
  all_found [] all = All-nil P
  all_found (x ∷ xs) all = by_value (f x) refl (all_found xs (All-tail Q x xs all))
    where
      by_value : (r : Option Y) → f x ≡ r → All P (filter_map f xs) → All P (cons_option r (filter_map f xs))
      by_value None e rest = rest
      by_value (Some y) e rest = All-cons P y (filter_map f xs) (step x y (All-head Q x xs all) e) rest

-- the same for lists that follow one another
pub all_flat : {X Y : Type 0} (f : X → List Y) (Q : X → Type 0) (P : Y → Type 0) →
    ((x : X) → Q x → All P (f x)) →
    (xs : List X) → All Q xs → All P (flat_map f xs)
all_flat f Q P step [] all = All-nil P
all_flat f Q P step (x ∷ xs) all =
    All-append P (f x) (flat_map f xs) (step x (All-head Q x xs all))
    (all_flat f Q P step xs (All-tail Q x xs all))

pub all_any : {X : Type 0} (xs : List X) → All (λ x. Unit {0}) xs
all_any xs k d h = tt

-- ---- predicates

module _ (schemas : List Schema) where
  predicate_arity : (from : ℕ) (names : List (List ℕ)) (arities : List ℕ) (n arity : ℕ) (d : PredicateDef) →
      slice_get arities n ≡ Some arity → slice_get (predicates_from schemas from names arities) n ≡ Some d →
      d.arity ≡ arity
  predicate_arity from [] arities n arity d a h = cc
  predicate_arity from (name ∷ names) [] n arity d a h = cc
  predicate_arity from (name ∷ names) (x ∷ arities) zero arity d a h =
      let made : PredicateDef = record { name = name; arity = x; is_static = not (is_fluent schemas from) } in
      let same : made ≡ d = cc in
      let is : x ≡ arity = cc in
      sym (ap (λ (e : PredicateDef). e.arity) same) ∙ is
  predicate_arity from (name ∷ names) (x ∷ arities) (suc n) arity d a h = predicate_arity (from + 1)
      names arities n arity d a h

  pub predicate_static : (from : ℕ) (names : List (List ℕ)) (arities : List ℕ) (n : ℕ) (d : PredicateDef) →
      slice_get (predicates_from schemas from names arities) n ≡ Some d →
      d.is_static ≡ not (is_fluent schemas (from + n))
  predicate_static from [] arities n d h = cc
  predicate_static from (name ∷ names) [] n d h = cc
  predicate_static from (name ∷ names) (x ∷ arities) zero d h =
      let made : PredicateDef = record { name = name; arity = x; is_static = not (is_fluent schemas from) } in
      let same : made ≡ d = cc in
      let is : from ≡ from + 0 = omega arith in
      sym (ap (λ (e : PredicateDef). e.is_static) same) ∙ ap (λ k. not (is_fluent schemas k)) is
  predicate_static from (name ∷ names) (x ∷ arities) (suc n) d h =
      let is : (from + 1) + n ≡ from + suc n = omega arith in
      predicate_static (from + 1) names arities n d h ∙ ap (λ k. not (is_fluent schemas k)) is

  predicate_within : (from : ℕ) (names : List (List ℕ)) (arities : List ℕ) (n : ℕ) →
      n < length names → n < length arities →
      n < length (predicates_from schemas from names arities)
  predicate_within from [] arities n h k = absurd (omega arith)
  predicate_within from (name ∷ names) [] n h k = absurd (omega arith)
  predicate_within from (name ∷ names) (x ∷ arities) zero h k = omega arith
  predicate_within from (name ∷ names) (x ∷ arities) (suc n) h k =
      let rest = predicate_within (from + 1) names arities n (omega arith) (omega arith) in
      omega (arith, rest)

  pub predicates_few : (from : ℕ) (names : List (List ℕ)) (arities : List ℕ) →
      length (predicates_from schemas from names arities) ≤ length names
  predicates_few from [] arities = omega arith
  predicates_few from (name ∷ names) [] = omega arith
  predicates_few from (name ∷ names) (x ∷ arities) = omega (arith, predicates_few (from + 1) names arities)

  pub predicates_narrow : (from : ℕ) (names : List (List ℕ)) (arities : List ℕ) → All (λ a. a ≤ 64) arities →
      All (λ (d : PredicateDef). d.arity ≤ 64) (predicates_from schemas from names arities)
  predicates_narrow from [] arities h = All-nil (λ (d : PredicateDef). d.arity ≤ 64)
  predicates_narrow from (name ∷ names) [] h = All-nil (λ (d : PredicateDef). d.arity ≤ 64)
  predicates_narrow from (name ∷ names) (x ∷ arities) h =
      All-cons (λ (d : PredicateDef). d.arity ≤ 64) (record {
        name = name;
        arity = x;
        is_static = not (is_fluent schemas from);
      })
      (predicates_from schemas (from + 1) names arities) (All-head (λ a. a ≤ 64) x arities h)
      (predicates_narrow (from + 1) names arities (All-tail (λ a. a ≤ 64) x arities h))

-- the predicate of an atom without a fault, and its number of arguments
record IsPredicate (arities : List ℕ) (r : Option ℕ) (count : ℕ) : Type 0 where
  number : ℕ
  is : r ≡ Some number
  takes : slice_get arities number ≡ Some count

predicate_ok : (arities : List ℕ) (r : Option ℕ) (count at : ℕ) →
    atom_own (option_and_then (slice_get arities) r) count at ≡ [] →
    IsPredicate arities r count
predicate_ok arities None count at h = cc
predicate_ok arities (Some n) count at h = by_arity (slice_get arities n) refl h
  where
    by_arity : (s : Option ℕ) → slice_get arities n ≡ s → atom_own s count at ≡ [] →
        IsPredicate arities (Some n) count
    by_arity None e h = cc
    by_arity (Some a) e h =
        let same : count ≡ a = eqb-true count a
        (not-false (count == a) (passes (not (count == a)) at kind.WrongArity h)) in
        record { number = n; is = refl; takes = e ∙ ap (λ x. Some x) (sym same) }

-- ---- terms, atoms, literals

module _ (scope : Scope) (schemas : List Schema) (parameters : ℕ)
    (fits : length scope.parameters ≤ parameters) where
  abbrev defs : List PredicateDef
  defs = predicates_from schemas 0 scope.known.predicates scope.known.arities

  abbrev objects : ℕ
  objects = length scope.known.objects

  term_ok : (tree : Tree) (t : Term) → term_of scope tree ≡ Some t → IsTermOf objects parameters t
  unfolding term_named
  term_ok tree t h = by_kind (is_variable (word_of scope.text tree)) h
    where
      parameter_ok : (r : Option ℕ) → number_among scope.parameters (word_of scope.text tree) ≡ r →
          option_map term.Parameter r ≡ Some t → IsTermOf objects parameters t
      parameter_ok None e h = cc
      parameter_ok (Some n) e h =
          let same : term.Parameter n ≡ t = cc in
          let within = number_within scope.parameters (word_of scope.text tree) n e in
          subst (IsTermOf objects parameters) same
          (record {
            parameter = λ m is. (let k : n ≡ m = cc in omega (arith, within, fits, k));
            object = λ m is. cc;
          })

      object_ok : (r : Option ℕ) → number_among scope.known.objects (word_of scope.text tree) ≡ r →
          option_map term.Object r ≡ Some t → IsTermOf objects parameters t
      object_ok None e h = cc
      object_ok (Some n) e h =
          let same : term.Object n ≡ t = cc in
          let within = number_within scope.known.objects (word_of scope.text tree) n e in
          subst (IsTermOf objects parameters) same
          (record {
            parameter = λ m is. cc;
            object = λ m is. (let k : n ≡ m = cc in
                omega (arith, within, k));
          })

      by_kind : (b : Bool) →
          cond b (option_map term.Parameter (number_among scope.parameters (word_of scope.text tree)))
          (option_map term.Object (number_among scope.known.objects (word_of scope.text tree))) ≡ Some t →
          IsTermOf objects parameters t
      by_kind true h = parameter_ok (number_among scope.parameters (word_of scope.text tree)) refl h
      by_kind false h = object_ok (number_among scope.known.objects (word_of scope.text tree)) refl h

  terms_ok : (forms : List Tree) → All (IsTermOf objects parameters) (terms_of scope forms)
  terms_ok forms =
      all_found (term_of scope) (λ tree. Unit {0}) (IsTermOf objects parameters)
      (λ tree t _ is. term_ok tree t is) forms (all_any forms)

  term_found : (tree : Tree) → term_faults scope tree ≡ [] → is_none (term_of scope tree) ≡ false
  unfolding term_faults
  term_found tree h = by_kind (is_variable (word_of scope.text tree) || is_name (word_of scope.text tree)) h
    where
      by_kind : (b : Bool) → cond b (fault_if (is_none (term_of scope tree)) (place tree) kind.UnknownName)
          (fault_if true (place tree) kind.BadForm) ≡ [] → is_none (term_of scope tree) ≡ false
      by_kind true h = passes (is_none (term_of scope tree)) (place tree) kind.UnknownName h
      by_kind false h = cc

  terms_many : (forms : List Tree) → terms_faults scope forms ≡ [] →
      length (terms_of scope forms) ≡ length forms
  terms_many [] h = refl
  terms_many (tree ∷ rest) h =
      by_value (term_of scope tree) (term_found tree
      (empty_left (term_faults scope tree) (terms_faults scope rest) h))
      (terms_many rest (empty_right (term_faults scope tree) (terms_faults scope rest) h))
    where
      by_value : (r : Option Term) → is_none r ≡ false → length (terms_of scope rest) ≡ length rest →
          length (cons_option r (terms_of scope rest)) ≡ suc (length rest)
      by_value None e rest = cc
      by_value (Some t) e rest = ap suc rest

  lifted_ok : (at : ℕ) (forms : List Tree) → atom_faults scope at forms ≡ [] →
      terms_faults scope (drop 1 forms) ≡ [] →
      IsLiftedOf defs objects parameters (lifted_of scope forms)
  lifted_ok at forms h t =
      let names = scope.known.predicates in
      let arities = scope.known.arities in
      let name = head_word scope.text forms in
      let count = length (drop 1 forms) in
      let p = predicate_ok arities (number_among names name) count at h in
      let is : unwrap_or (number_among names name) 0 ≡ p.number = ap (λ r. unwrap_or r 0) p.is in
      record {
        predicate = subst (λ k. k < length defs) (sym is)
            (predicate_within schemas 0 names arities p.number (number_within names name p.number p.is)
            (slice_get_within arities p.number count p.takes));
        arity = λ d found.
            terms_many (drop 1 forms) t ∙
            sym (predicate_arity schemas 0 names arities p.number count d p.takes
            (subst (λ k. slice_get defs k ≡ Some d) is found));
        terms = terms_ok (drop 1 forms);
      }

  abbrev IsOf : Literal → Type 0
  IsOf = IsLiteralOf defs objects parameters

  atom_is : (a : Lifted) → IsLiftedOf defs objects parameters a → IsOf (literal.Atom a)
  atom_is a h = record {
    atom = λ b is. (let same : a ≡ b = cc in subst (IsLiftedOf defs objects parameters) same h);
    not_atom = λ b is. cc;
    equal_left = λ x y is. cc;
    equal_right = λ x y is. cc;
    not_equal_left = λ x y is. cc;
    not_equal_right = λ x y is. cc;
  }

  not_atom_is : (a : Lifted) → IsLiftedOf defs objects parameters a → IsOf (literal.NotAtom a)
  not_atom_is a h = record {
    atom = λ b is. cc;
    not_atom = λ b is. (let same : a ≡ b = cc in subst (IsLiftedOf defs objects parameters) same h);
    equal_left = λ x y is. cc;
    equal_right = λ x y is. cc;
    not_equal_left = λ x y is. cc;
    not_equal_right = λ x y is. cc;
  }

  equal_is : (a b : Term) → IsTermOf objects parameters a → IsTermOf objects parameters b →
      IsOf (literal.Equal a b)
  equal_is a b h k = record {
    atom = λ c is. cc;
    not_atom = λ c is. cc;
    equal_left = λ x y is. (let same : a ≡ x = cc in subst (IsTermOf objects parameters) same h);
    equal_right = λ x y is. (let same : b ≡ y = cc in subst (IsTermOf objects parameters) same k);
    not_equal_left = λ x y is. cc;
    not_equal_right = λ x y is. cc;
  }

  not_equal_is : (a b : Term) → IsTermOf objects parameters a → IsTermOf objects parameters b →
      IsOf (literal.NotEqual a b)
  not_equal_is a b h k = record {
    atom = λ c is. cc;
    not_atom = λ c is. cc;
    equal_left = λ x y is. cc;
    equal_right = λ x y is. cc;
    not_equal_left = λ x y is. (let same : a ≡ x = cc in subst (IsTermOf objects parameters) same h);
    not_equal_right = λ x y is. (let same : b ≡ y = cc in subst (IsTermOf objects parameters) same k);
  }

  negated_is : (l : Literal) → IsOf l → IsOf (negated l)
  negated_is (literal.Atom a) h = not_atom_is a (h.atom a refl)
  negated_is (literal.NotAtom a) h = atom_is a (h.not_atom a refl)
  negated_is (literal.Equal a b) h = not_equal_is a b (h.equal_left a b refl) (h.equal_right a b refl)
  negated_is (literal.NotEqual a b) h = equal_is a b (h.not_equal_left a b refl) (h.not_equal_right a b refl)

  equality_is : (terms : List Term) → All (IsTermOf objects parameters) terms → All IsOf (equality_of terms)
  equality_is [] h = All-nil IsOf
  equality_is (a ∷ []) h = All-nil IsOf
  equality_is (a ∷ b ∷ []) h =
      let T = IsTermOf objects parameters in
      All-cons IsOf (literal.Equal a b) []
      (equal_is a b (All-head T a (b ∷ []) h) (All-head T b [] (All-tail T a (b ∷ []) h))) (All-nil IsOf)
  equality_is (a ∷ b ∷ c ∷ rest) h = All-nil IsOf

  basic_by_ok : (head : Head) (equality : Bool) (at : ℕ) (forms : List Tree) →
      basic_by head scope equality at forms ≡ [] →
      terms_faults scope (drop 1 forms) ≡ [] → All IsOf (basic_literal_by head scope forms)
  basic_by_ok Nothing equality at forms h t = All-nil IsOf
  basic_by_ok NoName equality at forms h t = All-nil IsOf
  basic_by_ok And equality at forms h t = All-nil IsOf
  basic_by_ok Not equality at forms h t = All-nil IsOf
  basic_by_ok Reserved equality at forms h t = All-nil IsOf
  basic_by_ok Equals equality at forms h t = equality_is (terms_of scope (drop 1 forms))
      (terms_ok (drop 1 forms))
  basic_by_ok Name equality at forms h t =
      All-cons IsOf (literal.Atom (lifted_of scope forms)) []
      (atom_is (lifted_of scope forms) (lifted_ok at forms h t)) (All-nil IsOf)

  pub basic_ok : (equality : Bool) (tree : Tree) → basic_faults scope equality tree ≡ [] →
      All IsOf (basic_literal scope tree)
  unfolding basic_faults basic_own basic_literal
  basic_ok equality tree h =
      let own = basic_by (head_of scope.text (elements tree)) scope equality (place tree) (elements tree) in
      let terms = terms_faults scope (drop 1 (elements tree)) in
      basic_by_ok (head_of scope.text (elements tree)) equality (place tree) (elements tree)
      (empty_own own terms h) (empty_inside own terms h)

  -- an atom, where no equality may stand
  atom_by_ok : (head : Head) (at : ℕ) (forms : List Tree) → basic_by head scope false at forms ≡ [] →
      terms_faults scope (drop 1 forms) ≡ [] → IsLiftedOf defs objects parameters (lifted_of scope forms)
  atom_by_ok Nothing at forms h t = cc
  atom_by_ok NoName at forms h t = cc
  atom_by_ok And at forms h t = cc
  atom_by_ok Not at forms h t = cc
  atom_by_ok Reserved at forms h t = cc
  atom_by_ok Equals at forms h t = cc
  atom_by_ok Name at forms h t = lifted_ok at forms h t

  pub atom_ok : (tree : Tree) → basic_faults scope false tree ≡ [] →
      IsLiftedOf defs objects parameters (lifted_of scope (elements tree))
  unfolding basic_faults basic_own
  atom_ok tree h =
      let own = basic_by (head_of scope.text (elements tree)) scope false (place tree) (elements tree) in
      let terms = terms_faults scope (drop 1 (elements tree)) in
      atom_by_ok (head_of scope.text (elements tree)) (place tree) (elements tree) (empty_own own terms h)
      (empty_inside own terms h)

  -- a list that begins with a word, by the kind of the word
  by_head_ok : (head : Head) (equality : Bool) (at : ℕ) (forms inner : List Tree) (conjuncts : List Fault)
      (literals : List Literal) →
      condition_by head scope equality at forms ≡ [] →
      by_head head conjuncts (flat_map (basic_faults scope equality) inner)
      (terms_faults scope (drop 1 forms)) ≡ [] →
      (conjuncts ≡ [] → All IsOf literals) →
      All IsOf (by_head head literals (map negated (flat_map (basic_literal scope) inner))
      (basic_literal_by head scope forms))
  by_head_ok Nothing equality at forms inner conjuncts literals h t rest = All-nil IsOf
  by_head_ok NoName equality at forms inner conjuncts literals h t rest = All-nil IsOf
  by_head_ok And equality at forms inner conjuncts literals h t rest = rest t
  by_head_ok Not equality at forms inner conjuncts literals h t rest =
      All-map IsOf negated (flat_map (basic_literal scope) inner)
      (All-weaker IsOf (λ l. IsOf (negated l)) negated_is (flat_map (basic_literal scope) inner)
      (all_flat (basic_literal scope) (λ tree. basic_faults scope equality tree ≡ []) IsOf
      (basic_ok equality) inner
      (each_empty (basic_faults scope equality) inner t)))
  by_head_ok Reserved equality at forms inner conjuncts literals h t rest = All-nil IsOf
  by_head_ok Equals equality at forms inner conjuncts literals h t rest =
      basic_by_ok Equals equality at forms h t
  by_head_ok Name equality at forms inner conjuncts literals h t rest = basic_by_ok Name equality at forms h t

  list_ok : (equality : Bool) (span : Span) (head : Tree) (rest : Trees) →
      condition_faults scope equality (list span (more head rest)) ≡ [] →
      (conjuncts_faults scope equality rest ≡ [] → All IsOf (conjuncts_literals scope rest)) →
      All IsOf (literals_of scope (list span (more head rest)))
  unfolding condition_own basic_literal is_list
  list_ok equality span head rest h inner =
      let forms = head ∷ members rest in
      let first = head_of scope.text forms in
      let own = condition_by first scope equality span.from forms in
      let inside = by_head first (conjuncts_faults scope equality rest)
      (flat_map (basic_faults scope equality) (members rest)) (terms_faults scope (members rest)) in
      by_head_ok first equality span.from forms (members rest) (conjuncts_faults scope equality rest)
      (conjuncts_literals scope rest)
      (empty_own own inside h) (empty_inside own inside h) inner

  mutual
    pub condition_ok : (equality : Bool) (tree : Tree) → condition_faults scope equality tree ≡ [] →
        All IsOf (literals_of scope tree)
    condition_ok equality (word span) h = All-nil IsOf
    condition_ok equality (list span end) h = All-nil IsOf
    condition_ok equality (list span (more head rest)) h = list_ok equality span head rest h
        (conjuncts_ok equality rest)

    conjuncts_ok : (equality : Bool) (trees : Trees) → conjuncts_faults scope equality trees ≡ [] →
        All IsOf (conjuncts_literals scope trees)
    conjuncts_ok equality end h = All-nil IsOf
    conjuncts_ok equality (more tree rest) h =
        All-append IsOf (literals_of scope tree) (conjuncts_literals scope rest)
        (condition_ok equality tree (empty_left (condition_faults scope equality tree)
        (conjuncts_faults scope equality rest) h))
        (conjuncts_ok equality rest (empty_right (condition_faults scope equality tree)
        (conjuncts_faults scope equality rest) h))
