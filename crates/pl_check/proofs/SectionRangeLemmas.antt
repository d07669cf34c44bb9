-- Sections without a fault: what each section of a key has none of.
use Rattle.std.proofs.Common.{◌≡◌, ◌==◌, ◌<◌, ◌≤◌, ℕ, Bool, true, false, not, cond, ◌||◌, ◌&&◌, List, [], ◌∷◌}
use Rattle.std.proofs.Common.{◌++◌, map, filter, drop, length, nat_lt, codes, bytes_eq, All, refl, sym, ap}
use Rattle.std.proofs.Common.{◌∙◌, subst, arith, None}
use Rattle.std.specs.List.{list_any, flat_map}
use Rattle.std.proofs.lemmas.Bool.{ltb-false}
use Rattle.std.proofs.lemmas.List.Elements.{All-nil, All-cons, All-append}
use Rattle.pl_task.specs.declared.data.ObjectDef.{ObjectDef}
use Rattle.pl_task.specs.declared.data.Schema.{Schema}
use Rattle.pl_task.specs.declared.data.TypeDef.{TypeDef}
use Rattle.pl_task.specs.WellFormed.{IsSchemaOf}
use Rattle.pl_text.specs.Trees.{Tree, word, list, Trees, end, more, members}
use Rattle.pl_check.specs.declared.fault.FaultKind.TheVariants as kind
use Rattle.pl_check.specs.declared.reading.Fault.{Fault}
use Rattle.pl_check.specs.declared.role.FileRole.{FileRole}
use Rattle.pl_check.specs.declared.role.FileRole.TheVariants.{Domain, Problem, Plan}
use Rattle.pl_check.specs.declared.typed.TypedRole.TheVariants.{Names, Variables}
use Rattle.pl_check.specs.Actions.{action_name, action_faults}
use Rattle.pl_check.specs.Conditions.{effect_faults}
use Rattle.pl_check.specs.Elements.{place, is_list, elements, head_word}
use Rattle.pl_check.specs.FaultLists.{first, fault_if, or_inside}
use Rattle.pl_check.specs.Files.{is_title, define_own, define_inside, form_faults, further_faults}
use Rattle.pl_check.specs.Files.{file_faults}
use Rattle.pl_check.specs.Known.{Known, sections, has_key, first_section, sections_of, all_after}
use Rattle.pl_check.specs.Predicates.{declared_name, is_declaration, declared_arity, declarations}
use Rattle.pl_check.specs.Predicates.{declaration_own, declaration_faults, names_after, predicates_faults}
use Rattle.pl_check.specs.Sections.{Earlier, is_action, earlier_after, section_own, requirement_faults}
use Rattle.pl_check.specs.Sections.{domain_inside, domain_section, problem_inside, problem_scope}
use Rattle.pl_check.specs.Sections.{problem_section, section_inside, sections_faults}
use Rattle.pl_check.specs.Stated.{stated_schema, predicates_from}
use Rattle.pl_check.specs.Terms.{basic_faults}
use Rattle.pl_check.specs.TypedLists.{typed_faults, at_start}
use Rattle.pl_check.proofs.NoFaultLemmas.{empty_left, empty_right, empty_own, empty_inside, none_empty}
use Rattle.pl_check.proofs.NoFaultLemmas.{passes, each_empty}
use Rattle.pl_check.proofs.ActionRangeLemmas.{same_word, action_ok}

-- ---- predicates

declaration_few : (text : List ℕ) (types earlier : List (List ℕ)) (tree : Tree) →
    declaration_faults text types earlier tree ≡ [] →
    is_declaration text tree ≡ true → declared_arity text tree ≤ 64
unfolding declaration_faults declaration_own
declaration_few text types earlier tree h is =
    let again = fault_if (list_any (bytes_eq (declared_name text tree)) earlier)
    (place tree) kind.Duplicate in
    let many = fault_if (nat_lt 64 (declared_arity text tree)) (place tree) kind.TooMany in
    let shape = fault_if true (place tree) kind.BadForm in
    let own : cond (is_declaration text tree) (again ++ many) shape ≡ [] =
    empty_own (cond (is_declaration text tree) (again ++ many) shape)
    (typed_faults text types Variables at_start (drop 1 (elements tree))) h in
    let none : again ++ many ≡ [] = subst (λ b. cond b (again ++ many) shape ≡ []) is own in
    ltb-false 64 (declared_arity text tree) (passes (nat_lt 64 (declared_arity text tree)) (place tree)
    kind.TooMany (empty_right again many none))

-- declared predicates have at most 64 arguments
pub arities_few : (text : List ℕ) (types earlier : List (List ℕ)) (forms : List Tree) →
    predicates_faults text types earlier forms ≡ [] →
    All (λ a. a ≤ 64) (map (declared_arity text) (declarations text forms))
arities_few text types earlier [] h = All-nil (λ a. a ≤ 64)
arities_few text types earlier (tree ∷ rest) h =
    let here = declaration_faults text types earlier tree in
    let later = predicates_faults text types (names_after text tree earlier) rest in
    by_test (is_declaration text tree) refl
    (declaration_few text types earlier tree (empty_left here later h))
    (arities_few text types (names_after text tree earlier) rest (empty_right here later h))
  where
    by_test : (b : Bool) → is_declaration text tree ≡ b →
        (is_declaration text tree ≡ true → declared_arity text tree ≤ 64) →
        All (λ a. a ≤ 64) (map (declared_arity text) (declarations text rest)) →
        All (λ a. a ≤ 64) (map (declared_arity text)
        (cond b (tree ∷ declarations text rest) (declarations text rest)))
    by_test true e few rest' = All-cons (λ a. a ≤ 64) (declared_arity text tree)
        (map (declared_arity text) (declarations text rest)) (few e) rest'
    by_test false e few rest' = rest'

-- ---- sections

module _ (role : FileRole) (text : List ℕ) (known : Known) where
  abbrev here : Earlier → Tree → List Fault
  here earlier section = or_inside (section_own text role earlier.keys section)
      (section_inside role text known earlier section)

  inside_none : (earlier : Earlier) (section : Tree) (rest : List Tree) →
      sections_faults role text known earlier (section ∷ rest) ≡ [] →
      section_inside role text known earlier section ≡ []
  inside_none earlier section rest h =
      empty_inside (section_own text role earlier.keys section)
      (section_inside role text known earlier section)
      (empty_left (here earlier section)
      (sections_faults role text known (earlier_after text section earlier) rest) h)

  rest_none : (earlier : Earlier) (section : Tree) (rest : List Tree) →
      sections_faults role text known earlier (section ∷ rest) ≡ [] →
      sections_faults role text known (earlier_after text section earlier) rest ≡ []
  rest_none earlier section rest h =
      empty_right (here earlier section)
      (sections_faults role text known (earlier_after text section earlier) rest) h

  -- the elements after a key have none of the faults that the key says
  all_after_none : (key : List ℕ) (f : Tree → List Fault) →
      ((earlier : Earlier) (section : Tree) → has_key text key section ≡ true →
      section_inside role text known earlier section ≡ [] →
      flat_map f (drop 1 (elements section)) ≡ []) →
      (earlier : Earlier) (list : List Tree) → sections_faults role text known earlier list ≡ [] →
      All (λ tree. f tree ≡ []) (all_after text key list)
  all_after_none key f says earlier [] h = All-nil (λ tree. f tree ≡ [])
  all_after_none key f says earlier (section ∷ rest) h =
      by_test (has_key text key section) refl
      (all_after_none key f says (earlier_after text section earlier) rest (rest_none earlier section rest h))
    where
      by_test : (b : Bool) → has_key text key section ≡ b →
          All (λ tree. f tree ≡ []) (all_after text key rest) →
          All (λ tree. f tree ≡ []) (flat_map (λ s. drop 1 (elements s))
          (cond b (section ∷ sections_of text key rest) (sections_of text key rest)))
      by_test true e later =
          All-append (λ tree. f tree ≡ []) (drop 1 (elements section)) (all_after text key rest)
          (each_empty f (drop 1 (elements section))
          (says earlier section e (inside_none earlier section rest h))) later
      by_test false e later = later

module _ (text : List ℕ) (known : Known) where
  predicates_inside : (earlier : Earlier) (section : Tree) →
      has_key text (codes ":predicates") section ≡ true →
      domain_section text known earlier section ≡ [] →
      predicates_faults text known.types [] (drop 1 (elements section)) ≡ []
  unfolding domain_section domain_inside
  predicates_inside earlier section e h =
      subst (λ k. cond (bytes_eq k (codes ":action")) (action_faults text known earlier.actions section)
      (domain_inside text known k (drop 1 (elements section))) ≡ [])
      (same_word (head_word text (elements section)) (codes ":predicates") e) h

  pub predicates_none : (earlier : Earlier) (list : List Tree) →
      sections_faults Domain text known earlier list ≡ [] →
      predicates_faults text known.types [] (first_section text (codes ":predicates") list) ≡ []
  predicates_none earlier [] h = refl
  predicates_none earlier (section ∷ rest) h =
      by_test (has_key text (codes ":predicates") section) refl
      (predicates_none (earlier_after text section earlier) rest
      (rest_none Domain text known earlier section rest h))
    where
      by_test : (b : Bool) → has_key text (codes ":predicates") section ≡ b →
          predicates_faults text known.types [] (first_section text (codes ":predicates") rest) ≡ [] →
          predicates_faults text known.types []
          (cond b (drop 1 (elements section)) (first_section text (codes ":predicates") rest)) ≡ []
      by_test true e later = predicates_inside earlier section e
          (inside_none Domain text known earlier section rest h)
      by_test false e later = later

  action_inside : (earlier : Earlier) (section : Tree) → is_action text section ≡ true →
      domain_section text known earlier section ≡ [] →
      action_faults text known earlier.actions section ≡ []
  unfolding domain_section
  action_inside earlier section e h =
      subst (λ b. cond b (action_faults text known earlier.actions section)
      (domain_inside text known (head_word text (elements section)) (drop 1 (elements section))) ≡ []) e h

  init_inside : (section : Tree) → has_key text (codes ":init") section ≡ true →
      problem_section text known section ≡ [] →
      flat_map (basic_faults (problem_scope text known) false) (drop 1 (elements section)) ≡ []
  unfolding problem_section problem_inside
  init_inside section e h =
      subst (λ k. problem_inside (problem_scope text known) k (drop 1 (elements section)) ≡ [])
      (same_word (head_word text (elements section)) (codes ":init") e) h

  goal_inside : (section : Tree) → has_key text (codes ":goal") section ≡ true →
      problem_section text known section ≡ [] →
      flat_map (effect_faults (problem_scope text known)) (drop 1 (elements section)) ≡ []
  unfolding problem_section problem_inside
  goal_inside section e h =
      subst (λ k. problem_inside (problem_scope text known) k (drop 1 (elements section)) ≡ [])
      (same_word (head_word text (elements section)) (codes ":goal") e) h

  pub init_none : (earlier : Earlier) (list : List Tree) →
      sections_faults Problem text known earlier list ≡ [] →
      All (λ tree. basic_faults (problem_scope text known) false tree ≡ [])
      (all_after text (codes ":init") list)
  init_none =
      all_after_none Problem text known (codes ":init") (basic_faults (problem_scope text known) false)
      (λ earlier section e h. init_inside section e h)

  pub goal_none : (earlier : Earlier) (list : List Tree) →
      sections_faults Problem text known earlier list ≡ [] →
      All (λ tree. effect_faults (problem_scope text known) tree ≡ []) (all_after text (codes ":goal") list)
  goal_none =
      all_after_none Problem text known (codes ":goal") (effect_faults (problem_scope text known))
      (λ earlier section e h. goal_inside section e h)

-- ---- actions

module _ (text : List ℕ) (known : Known) (schemas : List Schema) (types : List TypeDef)
    (objects : List ObjectDef)
    (as_many_types : length types ≡ length known.types)
    (as_many_objects : length objects ≡ length known.objects) where
  abbrev IsOf : Schema → Type 0
  IsOf = IsSchemaOf types objects (predicates_from schemas 0 known.predicates known.arities)

  pub schemas_are : (earlier : Earlier) (list : List Tree) →
      sections_faults Domain text known earlier list ≡ [] →
      All IsOf (map (stated_schema text known) (sections_of text (codes ":action") list))
  schemas_are earlier [] h = All-nil IsOf
  schemas_are earlier (section ∷ rest) h =
      by_test (is_action text section) refl
      (schemas_are (earlier_after text section earlier) rest
      (rest_none Domain text known earlier section rest h))
    where
      by_test : (b : Bool) → is_action text section ≡ b →
          All IsOf (map (stated_schema text known) (sections_of text (codes ":action") rest)) →
          All IsOf (map (stated_schema text known) (cond b (section ∷ sections_of text (codes ":action") rest)
          (sections_of text (codes ":action") rest)))
      by_test true e later =
          All-cons IsOf (stated_schema text known section)
          (map (stated_schema text known) (sections_of text (codes ":action") rest))
          (action_ok text known schemas types objects as_many_types as_many_objects earlier.actions section
          (action_inside text known earlier section e (inside_none Domain text known earlier section rest h)))
          later
      by_test false e later = later

-- ---- files

abbrev pub no_earlier : Earlier
no_earlier = record { keys = []; actions = [] }

-- the sections of a file without a fault
pub sections_none : (role : FileRole) (text : List ℕ) (known : Known) (size : ℕ) (forms : List Tree) →
    file_faults role text known size forms ≡ [] →
    sections_faults role text known no_earlier (sections forms) ≡ []
unfolding sections form_faults
sections_none role text known size [] h = refl
sections_none role text known size (tree ∷ rest) h =
    by_shape (is_list tree) (empty_left (form_faults role text known tree) (further_faults rest) h)
  where
    of_title : (forms : List Tree) → define_inside role text known forms ≡ [] →
        sections_faults role text known no_earlier (drop 1 forms) ≡ []
    of_title [] h = refl
    of_title (title ∷ rest) h =
        empty_right (fault_if (not (is_title text role title)) (place title) kind.BadForm)
        (sections_faults role text known no_earlier rest) h

    after_two : (forms : List Tree) → sections_faults role text known no_earlier
        (drop 1 (drop 1 forms)) ≡ [] →
        sections_faults role text known no_earlier (drop 2 forms) ≡ []
    after_two [] h = h
    after_two (form ∷ rest) h = h

    by_shape : (b : Bool) → cond b (or_inside (define_own text tree)
        (define_inside role text known (drop 1 (elements tree))))
        (fault_if true (place tree) kind.NotOneForm) ≡ [] →
        sections_faults role text known no_earlier (drop 2 (elements tree)) ≡ []
    by_shape true h =
        after_two (elements tree) (of_title (drop 1 (elements tree))
        (empty_inside (define_own text tree) (define_inside role text known (drop 1 (elements tree))) h))
    by_shape false h = cc
