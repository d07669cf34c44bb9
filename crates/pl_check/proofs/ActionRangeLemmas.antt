-- Actions without a fault state schemas of the task.
use Rattle.std.proofs.Common.{◌≡◌, ◌==◌, ◌+◌, ◌<◌, ◌≤◌, ℕ, zero, suc, Bool, true, false, not, cond, ◌||◌}
use Rattle.std.proofs.Common.{◌&&◌, List, [], ◌∷◌, ◌++◌, map, filter, drop, length, get_or, Option, Some}
use Rattle.std.proofs.Common.{None, nat_lt, codes, bytes_eq, All, refl, sym, ap, ◌∙◌, subst, arith}
use Rattle.std.specs.List.{list_any, flat_map, filter_map}
use Rattle.std.proofs.lemmas.Bool.{false≢true, ltb-false}
use Rattle.std.proofs.lemmas.List.{length-map, length-append, map-append}
use Rattle.std.proofs.lemmas.List.Folds.{list_any-append}
use Rattle.std.proofs.lemmas.List.Elements.{All-nil, All-cons, All-append, All-map, All-weaker}
use Rattle.std.proofs.lemmas.Slice.Eq.{bytes_eq-Decides}
use Rattle.pl_names.specs.Names.{number_among}
use Rattle.pl_task.specs.declared.data.Lifted.{Lifted}
use Rattle.pl_task.specs.declared.data.Literal.{Literal}
use Rattle.pl_task.specs.declared.data.Literal.TheVariants as literal
use Rattle.pl_task.specs.declared.data.ObjectDef.{ObjectDef}
use Rattle.pl_task.specs.declared.data.Parameter.{Parameter}
use Rattle.pl_task.specs.declared.data.PredicateDef.{PredicateDef}
use Rattle.pl_task.specs.declared.data.Schema.{Schema}
use Rattle.pl_task.specs.declared.data.TypeDef.{TypeDef}
use Rattle.pl_task.specs.WellFormed.{IsLiftedOf, IsLiteralOf, IsSchemaOf}
use Rattle.pl_text.specs.Trees.{Tree, word, list, Trees, end, more, members}
use Rattle.pl_text.specs.declared.form.Span.{Span}
use Rattle.pl_check.specs.declared.fault.FaultKind.TheVariants as kind
use Rattle.pl_check.specs.declared.head.Head.{Head}
use Rattle.pl_check.specs.declared.head.Head.TheVariants.{Nothing, NoName, And, Not, Equals, Reserved, Name}
use Rattle.pl_check.specs.declared.reading.Fault.{Fault}
use Rattle.pl_check.specs.declared.typed.TypedRole.TheVariants.{Parameters}
use Rattle.pl_check.specs.Actions.{pairs, first_value, value_elements, parameter_elements, action_scope}
use Rattle.pl_check.specs.Actions.{parameters_faults, is_action_key, key_faults, value_faults, pairs_faults}
use Rattle.pl_check.specs.Actions.{action_name, first_place, action_faults, keyed_literals}
use Rattle.pl_check.specs.Conditions.{condition_own, condition_faults, effect_faults, precondition_faults}
use Rattle.pl_check.specs.Conditions.{counted, counted_all, is_connective, is_basic, by_head}
use Rattle.pl_check.specs.Elements.{place, is_list, word_of, elements}
use Rattle.pl_check.specs.FaultLists.{fault_if, or_inside}
use Rattle.pl_check.specs.Known.{Known}
use Rattle.pl_check.specs.Literals.{basic_literal, basic_literal_by, equality_of, terms_of, negated}
use Rattle.pl_check.specs.Literals.{literals_of, conjuncts_literals, added, deleted}
use Rattle.pl_check.specs.Stated.{parameter_of, schema_of, stated_schema, predicates_from}
use Rattle.pl_check.specs.Terms.{Scope, head_of}
use Rattle.pl_check.specs.TypedLists.{Item, items, item_variables, typed_items, is_dash, type_numbers}
use Rattle.pl_check.specs.TypedLists.{group_types, typed_faults, at_start}
use Rattle.pl_check.specs.Words.{is_key, is_variable}
use Rattle.pl_check.proofs.NoFaultLemmas.{empty_left, empty_right, empty_own, empty_inside, passes}
use Rattle.pl_check.proofs.NoFaultLemmas.{each_empty}
use Rattle.pl_check.proofs.RangeLemmas.{number_within, all_found, all_any, condition_ok}

-- ---- numbers of literals

pub filter_few : {X : Type 0} (p : X → Bool) (xs : List X) → length (filter p xs) ≤ length xs
filter_few p [] = omega arith
filter_few p (x ∷ xs) = by_test (p x) (filter_few p xs)
  where
    by_test : (b : Bool) → length (filter p xs) ≤ length xs →
        length (cond b (x ∷ filter p xs) (filter p xs)) ≤ suc (length xs)
    by_test true h = omega (arith, h)
    by_test false h = omega (arith, h)

equality_few : (terms : List _) → length (equality_of terms) ≤ 1
equality_few [] = omega arith
equality_few (a ∷ []) = omega arith
equality_few (a ∷ b ∷ []) = omega arith
equality_few (a ∷ b ∷ c ∷ rest) = omega arith

basic_by_few : (head : Head) (scope : Scope) (forms : List Tree) →
    length (basic_literal_by head scope forms) ≤ cond (is_basic head) 1 0
unfolding is_basic
basic_by_few Nothing scope forms = omega arith
basic_by_few NoName scope forms = omega arith
basic_by_few And scope forms = omega arith
basic_by_few Not scope forms = omega arith
basic_by_few Reserved scope forms = omega arith
basic_by_few Equals scope forms = equality_few (terms_of scope (drop 1 forms))
basic_by_few Name scope forms = omega arith

-- what is counted of a list that begins with a word, by its kind
counted_some : (head : Head) (inner : ℕ) → cond (is_basic head) 1 0 ≤ cond (is_connective head) inner
    (cond (is_basic head) 1 0)
unfolding is_basic is_connective
counted_some Nothing inner = omega arith
counted_some NoName inner = omega arith
counted_some And inner = omega arith
counted_some Not inner = omega arith
counted_some Reserved inner = omega arith
counted_some Equals inner = omega arith
counted_some Name inner = omega arith

basic_counted : (scope : Scope) (tree : Tree) → length (basic_literal scope tree) ≤ counted scope.text tree
unfolding basic_literal head_of
basic_counted scope (word span) = omega arith
basic_counted scope (list span end) = omega arith
basic_counted scope (list span (more head rest)) =
    let first = head_of scope.text (head ∷ members rest) in
    let few : length (basic_literal_by first scope (head ∷ members rest)) ≤ cond (is_basic first) 1 0 =
    basic_by_few first scope (head ∷ members rest) in
    let some : cond (is_basic first) 1 0 ≤ cond (is_connective first) (counted_all scope.text rest)
    (cond (is_basic first) 1 0) = counted_some first (counted_all scope.text rest) in
    below _ _ _ few some
  where
    below : (a b c : ℕ) → a ≤ b → b ≤ c → a ≤ c
    below a b c h k = omega (arith, h, k)

basics_counted : (scope : Scope) (trees : Trees) → length (flat_map (basic_literal scope) (members trees)) ≤
    counted_all scope.text trees
basics_counted scope end = omega arith
basics_counted scope (more tree rest) =
    omega (
      arith,
      length-append (basic_literal scope tree) (flat_map (basic_literal scope) (members rest)),
      basic_counted scope tree,
      basics_counted scope rest,
    )

by_head_counted : (head : Head) (scope : Scope) (forms : List Tree) (count : ℕ)
    (conjuncts basics : List Literal) → length conjuncts ≤ count → length basics ≤ count →
    length (by_head head conjuncts (map negated basics) (basic_literal_by head scope forms)) ≤ cond
    (is_connective head) count (cond (is_basic head) 1 0)
unfolding is_connective
by_head_counted Nothing scope forms count conjuncts basics h k = basic_by_few Nothing scope forms
by_head_counted NoName scope forms count conjuncts basics h k = basic_by_few NoName scope forms
by_head_counted And scope forms count conjuncts basics h k = h
by_head_counted Not scope forms count conjuncts basics h k = omega (arith, length-map basics negated, k)
by_head_counted Reserved scope forms count conjuncts basics h k = basic_by_few Reserved scope forms
by_head_counted Equals scope forms count conjuncts basics h k = basic_by_few Equals scope forms
by_head_counted Name scope forms count conjuncts basics h k = basic_by_few Name scope forms

list_counted : (scope : Scope) (span : Span) (head : Tree) (rest : Trees) →
    length (conjuncts_literals scope rest) ≤ counted_all scope.text rest →
    length (literals_of scope (list span (more head rest))) ≤ counted scope.text (list span (more head rest))
unfolding basic_literal
list_counted scope span head rest h =
    by_head_counted (head_of scope.text (head ∷ members rest)) scope (head ∷ members rest)
    (counted_all scope.text rest) (conjuncts_literals scope rest)
    (flat_map (basic_literal scope) (members rest)) h (basics_counted scope rest)

mutual
  -- the literals of a condition are no more than are counted
  pub literals_counted : (scope : Scope) (tree : Tree) →
      length (literals_of scope tree) ≤ counted scope.text tree
  literals_counted scope (word span) = omega arith
  literals_counted scope (list span end) = omega arith
  literals_counted scope (list span (more head rest)) = list_counted scope span head rest
      (conjuncts_counted scope rest)

  conjuncts_counted : (scope : Scope) (trees : Trees) →
      length (conjuncts_literals scope trees) ≤ counted_all scope.text trees
  conjuncts_counted scope end = omega arith
  conjuncts_counted scope (more tree rest) =
      omega (
        arith,
        length-append (literals_of scope tree) (conjuncts_literals scope rest),
        literals_counted
            scope tree,
        conjuncts_counted scope rest,
      )

-- ---- pairs

-- what no fault of a precondition says
record IsPrecondition (scope : Scope) (tree : Tree) : Type 0 where
  faultless : condition_faults scope true tree ≡ []
  few : counted scope.text tree ≤ 1024

precondition_ok : (scope : Scope) (tree : Tree) → precondition_faults scope tree ≡ [] →
    IsPrecondition scope tree
unfolding precondition_faults
precondition_ok scope tree h = by_test (nat_lt 1024 (counted scope.text tree)) refl h
  where
    by_test : (b : Bool) → nat_lt 1024 (counted scope.text tree) ≡ b →
        cond b (condition_own scope true tree ++ fault_if true (place tree) kind.TooMany)
        (condition_faults scope true tree) ≡ [] → IsPrecondition scope tree
    by_test true e h = absurd (some (empty_right (condition_own scope true tree)
        (fault_if true (place tree) kind.TooMany) h))
      where
        some : fault_if true (place tree) kind.TooMany ≡ [] → ⊥
        some h = cc
    by_test false e h = record { faultless = h; few = ltb-false 1024 (counted scope.text tree) e }

pub same_word : (a b : List ℕ) → bytes_eq a b ≡ true → a ≡ b
same_word a b h = (bytes_eq-Decides a b).0 h

parameters_value : (scope : Scope) (key : List ℕ) (value : Tree) → key ≡ codes ":parameters" →
    value_faults scope key value ≡ [] → parameters_faults scope value ≡ []
unfolding value_faults
parameters_value scope key value is h =
    subst (λ k. cond (bytes_eq k (codes ":parameters")) (parameters_faults scope value)
    (cond (bytes_eq k (codes ":precondition")) (precondition_faults scope value)
    (effect_faults scope value)) ≡ []) is h

precondition_value : (scope : Scope) (key : List ℕ) (value : Tree) → key ≡ codes ":precondition" →
    value_faults scope key value ≡ [] → precondition_faults scope value ≡ []
unfolding value_faults
precondition_value scope key value is h =
    subst (λ k. cond (bytes_eq k (codes ":parameters")) (parameters_faults scope value)
    (cond (bytes_eq k (codes ":precondition")) (precondition_faults scope value)
    (effect_faults scope value)) ≡ []) is h

effect_value : (scope : Scope) (key : List ℕ) (value : Tree) → key ≡ codes ":effect" →
    value_faults scope key value ≡ [] → effect_faults scope value ≡ []
unfolding value_faults
effect_value scope key value is h =
    subst (λ k. cond (bytes_eq k (codes ":parameters")) (parameters_faults scope value)
    (cond (bytes_eq k (codes ":precondition")) (precondition_faults scope value)
    (effect_faults scope value)) ≡ []) is h

-- at most 64 items where the value has no fault
parameters_few : (scope : Scope) (value : Tree) → parameters_faults scope value ≡ [] →
    length (items scope.text false (elements value)) ≤ 64
unfolding parameters_faults
parameters_few scope value h =
    let many = fault_if (nat_lt 64 (length (items scope.text false (elements value))))
    (place value) kind.TooMany in
    let shape = fault_if (not (is_list value)) (place value) kind.BadForm in
    let own : shape ++ many ≡ [] = empty_own (shape ++ many)
    (typed_faults scope.text scope.known.types Parameters at_start (elements value)) h in
    ltb-false 64 (length (items scope.text false (elements value)))
    (passes (nat_lt 64 (length (items scope.text false (elements value)))) (place value) kind.TooMany
    (empty_right shape many own))

-- a pair whose key stood before has a fault
key_new : (scope : Scope) (earlier : List (List ℕ)) (name : Tree) → key_faults scope earlier name ≡ [] →
    list_any (bytes_eq (word_of scope.text name)) earlier ≡ false
unfolding key_faults
key_new scope earlier name h = by_test (is_key (word_of scope.text name)) h
  where
    by_test : (b : Bool) → cond b (fault_if (not (is_action_key (word_of scope.text name)))
        (place name) kind.Unsupported ++
        fault_if (list_any (bytes_eq (word_of scope.text name)) earlier) (place name) kind.Duplicate)
        (fault_if true (place name) kind.BadForm) ≡ [] →
        list_any (bytes_eq (word_of scope.text name)) earlier ≡ false
    by_test true h = passes (list_any (bytes_eq (word_of scope.text name)) earlier)
        (place name) kind.Duplicate
        (empty_right (fault_if (not (is_action_key (word_of scope.text name))) (place name) kind.Unsupported)
        _ h)
    by_test false h = cc

or_true : (a b : Bool) → b ≡ true → (a || b) ≡ true
or_true true b h = refl
or_true false b h = h

or_left : (a b : Bool) → a ≡ true → (a || b) ≡ true
or_left true b h = refl
or_left false b h = cc

module _ (scope : Scope) where
  abbrev own : List (List ℕ) → Tree → Tree → List Fault
  own earlier name value = or_inside (key_faults scope earlier name)
      (value_faults scope (word_of scope.text name) value)

  abbrev after : List (List ℕ) → Tree → List (List ℕ)
  after earlier name = earlier ++ word_of scope.text name ∷ []

  value_none : (earlier : List (List ℕ)) (name value : Tree) (rest : List Tree) →
      pairs_faults scope earlier (name ∷ value ∷ rest) ≡ [] →
      value_faults scope (word_of scope.text name) value ≡ []
  value_none earlier name value rest h =
      empty_inside (key_faults scope earlier name) (value_faults scope (word_of scope.text name) value)
      (empty_left (own earlier name value) (pairs_faults scope (after earlier name) rest) h)

  key_none : (earlier : List (List ℕ)) (name value : Tree) (rest : List Tree) →
      pairs_faults scope earlier (name ∷ value ∷ rest) ≡ [] →
      key_faults scope earlier name ≡ []
  key_none earlier name value rest h =
      empty_own (key_faults scope earlier name) (value_faults scope (word_of scope.text name) value)
      (empty_left (own earlier name value) (pairs_faults scope (after earlier name) rest) h)

  rest_none : (earlier : List (List ℕ)) (name value : Tree) (rest : List Tree) →
      pairs_faults scope earlier (name ∷ value ∷ rest) ≡ [] →
      pairs_faults scope (after earlier name) rest ≡ []
  rest_none earlier name value rest h = empty_right (own earlier name value)
      (pairs_faults scope (after earlier name) rest) h

  -- where a key stood before, none of the pairs has it
  none_again : (key : List ℕ) (earlier : List (List ℕ)) (pairs : List Tree) →
      list_any (bytes_eq key) earlier ≡ true → pairs_faults scope earlier pairs ≡ [] →
      keyed_literals scope key pairs ≡ []
  none_again key earlier [] met h = refl
  none_again key earlier (name ∷ []) met h = refl
  none_again key earlier (name ∷ value ∷ rest) met h =
      by_test (bytes_eq (word_of scope.text name) key) refl
      (none_again key (after earlier name) rest
      (list_any-append (bytes_eq key) earlier (word_of scope.text name ∷ []) ∙ or_left _ _ met)
      (rest_none earlier name value rest h))
    where
      by_test : (b : Bool) → bytes_eq (word_of scope.text name) key ≡ b → keyed_literals scope key rest ≡ [] →
          cond b (literals_of scope value) [] ++ keyed_literals scope key rest ≡ []
      by_test true e later =
          let is : word_of scope.text name ≡ key = same_word (word_of scope.text name) key e in
          absurd (false≢true (sym (key_new scope earlier name (key_none earlier name value rest h)) ∙
          subst (λ k. list_any (bytes_eq k) earlier ≡ true) (sym is) met))
      by_test false e later = later

  -- so one pair at most has it
  keyed_few : (key : List ℕ) (most : ℕ) (earlier : List (List ℕ)) (pairs : List Tree) →
      pairs_faults scope earlier pairs ≡ [] →
      ((value : Tree) → value_faults scope key value ≡ [] → length (literals_of scope value) ≤ most) →
      length (keyed_literals scope key pairs) ≤ most
  keyed_few key most earlier [] h few = omega arith
  keyed_few key most earlier (name ∷ []) h few = omega arith
  keyed_few key most earlier (name ∷ value ∷ rest) h few =
      by_test (bytes_eq (word_of scope.text name) key) refl
      (keyed_few key most (after earlier name) rest (rest_none earlier name value rest h) few)
    where
      by_test : (b : Bool) → bytes_eq (word_of scope.text name) key ≡ b →
          length (keyed_literals scope key rest) ≤ most →
          length (cond b (literals_of scope value) [] ++ keyed_literals scope key rest) ≤ most
      by_test true e later =
          let is : word_of scope.text name ≡ key = same_word (word_of scope.text name) key e in
          let met : list_any (bytes_eq key) (after earlier name) ≡ true =
          list_any-append (bytes_eq key) earlier (word_of scope.text name ∷ []) ∙
          or_true _ _ (or_left (bytes_eq key (word_of scope.text name)) false
          ((bytes_eq-Decides key (word_of scope.text name)).1 (sym is))) in
          let none : keyed_literals scope key rest ≡ [] = none_again key (after earlier name) rest met
          (rest_none earlier name value rest h) in
          omega (
            arith,
            length-append (literals_of scope value) (keyed_literals scope key rest),
            ap length none,
            few value (subst (λ k. value_faults scope k value ≡ []) is
                (value_none earlier name value rest h)),
          )
      by_test false e later = later

  keyed_all : (P : Literal → Type 0) (key : List ℕ) (earlier : List (List ℕ)) (pairs : List Tree) →
      pairs_faults scope earlier pairs ≡ [] →
      ((value : Tree) → value_faults scope key value ≡ [] → All P (literals_of scope value)) →
      All P (keyed_literals scope key pairs)
  keyed_all P key earlier [] h all = All-nil P
  keyed_all P key earlier (name ∷ []) h all = All-nil P
  keyed_all P key earlier (name ∷ value ∷ rest) h all =
      by_test (bytes_eq (word_of scope.text name) key) refl
      (keyed_all P key (after earlier name) rest (rest_none earlier name value rest h) all)
    where
      by_test : (b : Bool) → bytes_eq (word_of scope.text name) key ≡ b →
          All P (keyed_literals scope key rest) →
          All P (cond b (literals_of scope value) [] ++ keyed_literals scope key rest)
      by_test true e later =
          let is : word_of scope.text name ≡ key = same_word (word_of scope.text name) key e in
          All-append P (literals_of scope value) (keyed_literals scope key rest)
          (all value (subst (λ k. value_faults scope k value ≡ []) is (value_none earlier name value rest h)))
          later
      by_test false e later = later

  first_parameters_few : (earlier : List (List ℕ)) (pairs : List Tree) →
      pairs_faults scope earlier pairs ≡ [] →
      length (items scope.text false (parameter_elements scope.text pairs)) ≤ 64
  first_parameters_few earlier [] h = omega arith
  first_parameters_few earlier (name ∷ []) h = omega arith
  first_parameters_few earlier (name ∷ value ∷ rest) h =
      by_test (bytes_eq (word_of scope.text name) (codes ":parameters")) refl
      (first_parameters_few (after earlier name) rest (rest_none earlier name value rest h))
    where
      by_test : (b : Bool) → bytes_eq (word_of scope.text name) (codes ":parameters") ≡ b →
          length (items scope.text false (parameter_elements scope.text rest)) ≤ 64 →
          length (items scope.text false (value_elements
          (cond b (Some value) (first_value scope.text (codes ":parameters") rest)))) ≤ 64
      by_test true e later =
          parameters_few scope value (parameters_value scope (word_of scope.text name) value
          (same_word (word_of scope.text name) (codes ":parameters") e)
          (value_none earlier name value rest h))
      by_test false e later = later

-- ---- schemas

-- the items of a typed list are as many with their types
pub items_many : (text : List ℕ) (after_dash : Bool) (forms : List Tree) →
    length (typed_items text after_dash forms) ≡ length (items text after_dash forms)
items_many text after_dash [] = refl
items_many text after_dash (tree ∷ rest) = by_test (after_dash || is_dash text tree)
    (items_many text (is_dash text tree) rest) (items_many text false rest)
  where
    by_test : (b : Bool) → length (typed_items text (is_dash text tree) rest) ≡ length
        (items text (is_dash text tree) rest) →
        length (typed_items text false rest) ≡ length (items text false rest) →
        length (cond b (typed_items text (is_dash text tree) rest) (record {
          name = word_of text tree;
          types = group_types text false rest;
        } ∷ typed_items text false rest)) ≡
        length (cond b (items text (is_dash text tree) rest) (tree ∷ items text false rest))
    by_test true h k = h
    by_test false h k = ap suc k

-- numbers of types are those of types
pub types_within : (types named : List (List ℕ)) → All (λ t. t < length types) (type_numbers types named)
types_within types named =
    all_found (number_among types) (λ name. Unit {0}) (λ t. t < length types)
    (λ name n _ is. number_within types name n is) named (all_any named)

module _ (text : List ℕ) (known : Known) (schemas : List Schema) (types : List TypeDef)
    (objects : List ObjectDef)
    (as_many_types : length types ≡ length known.types)
    (as_many_objects : length objects ≡ length known.objects) where
  abbrev schema_defs : List PredicateDef
  schema_defs = predicates_from schemas 0 known.predicates known.arities

  numbers_ok : (named : List (List ℕ)) → All (λ t. t < length types) (type_numbers known.types named)
  numbers_ok named = subst (λ m. All (λ t. t < m) (type_numbers known.types named)) (sym as_many_types)
      (types_within known.types named)

  pairs_ok : (name : List ℕ) (pairs : List Tree) →
      pairs_faults (action_scope text known pairs) [] pairs ≡ [] →
      IsSchemaOf types objects schema_defs (schema_of text known name pairs)
  pairs_ok name pairs h =
      let scope = action_scope text known pairs in
      let list = parameter_elements text pairs in
      let made = map (parameter_of known.types) (typed_items text false list) in
      let many : length made ≡ length (typed_items text false list) = length-map (typed_items text false list)
      (parameter_of known.types) in
      let as_many : length (typed_items text false list) ≡ length (items text false list) =
      items_many text false list in
      let fits : length scope.parameters ≤ length made =
      omega (
        arith,
        many,
        as_many,
        filter_few is_variable (map (word_of text) (items text false list)),
        length-map (items text false list) (word_of text),
      ) in
      let L = IsLiteralOf schema_defs (length objects) (length made) in
      let A = IsLiftedOf schema_defs (length objects) (length made) in
      let ok : (equality : Bool) (tree : Tree) → condition_faults scope equality tree ≡ [] →
      All L (literals_of scope tree) =
      λ equality tree none. subst (λ k. All (IsLiteralOf schema_defs k (length made))
      (literals_of scope tree)) (sym as_many_objects)
      (condition_ok scope schemas (length made) fits equality tree none) in
      let effects : All L (keyed_literals scope (codes ":effect") pairs) =
      keyed_all scope L (codes ":effect") [] pairs h
      (λ value none. ok false value (effect_value scope (codes ":effect") value refl none)) in
      record {
        few_parameters = omega (arith, many, as_many, first_parameters_few scope [] pairs h);
        few_literals = keyed_few scope (codes ":precondition") 1024 [] pairs h
            (λ value none.
            (let p = precondition_ok scope value
            (precondition_value scope (codes ":precondition") value refl none) in
            omega (arith, literals_counted scope value, p.few)));
        typed = All-map (λ (p : Parameter). All (λ t. t < length types) p.types) (parameter_of known.types)
            (typed_items text false list)
            (λ k d w. numbers_ok (get_or (typed_items text false list) k d).types);
        literals = keyed_all scope L (codes ":precondition") [] pairs h
            (λ value none. ok true value (precondition_ok scope value
            (precondition_value scope (codes ":precondition") value refl none)).faultless);
        deletes = all_found deleted L A (λ l a k is. deleted_is l a k is)
            (keyed_literals scope (codes ":effect") pairs) effects;
        adds = all_found added L A (λ l a k is. added_is l a k is)
            (keyed_literals scope (codes ":effect") pairs) effects;
      }
    where
      added_is : (l : Literal) (a : Lifted) →
          IsLiteralOf schema_defs (length objects)
          (length (map (parameter_of known.types) (typed_items text false (parameter_elements text pairs))))
          l → added l ≡ Some a →
          IsLiftedOf schema_defs (length objects)
          (length (map (parameter_of known.types)
          (typed_items text false (parameter_elements text pairs)))) a
      added_is (literal.Atom b) a k is = k.atom a (let same : b ≡ a = cc in ap literal.Atom same)
      added_is (literal.NotAtom b) a k is = cc
      added_is (literal.Equal x y) a k is = cc
      added_is (literal.NotEqual x y) a k is = cc

      deleted_is : (l : Literal) (a : Lifted) →
          IsLiteralOf schema_defs (length objects)
          (length (map (parameter_of known.types) (typed_items text false (parameter_elements text pairs))))
          l → deleted l ≡ Some a →
          IsLiftedOf schema_defs (length objects)
          (length (map (parameter_of known.types)
          (typed_items text false (parameter_elements text pairs)))) a
      deleted_is (literal.Atom b) a k is = cc
      deleted_is (literal.NotAtom b) a k is = k.not_atom a (let same : b ≡ a = cc in ap literal.NotAtom same)
      deleted_is (literal.Equal x y) a k is = cc
      deleted_is (literal.NotEqual x y) a k is = cc

  pub action_ok : (earlier : List (List ℕ)) (action : Tree) → action_faults text known earlier action ≡ [] →
      IsSchemaOf types objects schema_defs (stated_schema text known action)
  unfolding action_faults
  action_ok earlier action h =
      pairs_ok (action_name text action) (pairs action)
      (empty_right (fault_if (list_any (bytes_eq (action_name text action)) earlier)
      (first_place (drop 1 (elements action))) kind.Duplicate)
      (pairs_faults (action_scope text known (pairs action)) [] (pairs action)) h)
