-- The faults of each kind of form stand in order, so the first of two files is the least.
use Rattle.std.proofs.lemmas.Bool.{cases_lt}
use Rattle.std.proofs.Common.{◌≡◌, ◌⊎◌, inl, inr, ◌+◌, ◌*◌, ◌-◌, ◌<◌, ◌≤◌, ℕ, Bool, true, false, not, ◌&&◌}
use Rattle.std.proofs.Common.{◌||◌, ◌==◌, ◌%◌, cond, List, [], ◌∷◌, ◌++◌, drop, map, length, flat_map, Option}
use Rattle.std.proofs.Common.{None, Some, All, Contains, refl, sym, ap, ◌∙◌, subst, arith, codes, bytes_eq}
use Rattle.std.proofs.Common.{nat_lt, nat_le, is_none}
use Rattle.std.proofs.lemmas.List.Elements.{All-nil, All-cons, All-map, All-append, All-weaker}
use Rattle.std.specs.List.{list_any}
use Rattle.std.proofs.lemmas.Slice.Eq.{bytes_eq-Decides}
use Rattle.pl_text.specs.Trees.{Tree, Trees, word, list, end, more, span_of, members, AreTreesOf, LiesBetween}
use Rattle.pl_text.specs.Trees.{LieBetween}
use Rattle.pl_text.proofs.TreePlaceLaws.{LiesBetween-from, LiesBetween-some, LiesBetween-to, AreTreesOf-lie}
use Rattle.pl_text.specs.Words.{folded}
use Rattle.pl_check.specs.declared.fault.FaultKind.{FaultKind}
use Rattle.pl_check.specs.declared.fault.FaultKind.TheVariants as kind
use Rattle.pl_check.specs.declared.reading.Fault.{Fault}
use Rattle.pl_check.specs.declared.role.FileRole.{FileRole}
use Rattle.pl_check.specs.declared.role.FileRole.TheVariants.{Domain, Problem, Plan}
use Rattle.pl_check.specs.declared.head.Head.{Head}
use Rattle.pl_check.specs.declared.head.Head.TheVariants.{Nothing, NoName, And, Not, Equals, Reserved, Name}
use Rattle.pl_check.specs.declared.typed.TypedRole.{TypedRole}
use Rattle.pl_check.specs.declared.typed.TypedRole.TheVariants.{Variables, Parameters, Names}
use Rattle.pl_check.specs.Words.{is_name, is_variable, is_key}
use Rattle.pl_check.specs.Elements.{place, elements, word_of, head_word, is_list}
use Rattle.pl_check.specs.FaultLists.{fault_if, or_inside}
use Rattle.pl_check.specs.TypedLists.{Before, at_start, after, is_dash, item_faults, type_name_faults}
use Rattle.pl_check.specs.TypedLists.{type_faults, dash_faults, element_faults, typed_faults}
use Rattle.pl_check.specs.Predicates.{is_declaration, declaration_own, declaration_faults, names_after}
use Rattle.pl_check.specs.Predicates.{predicates_faults}
use Rattle.pl_check.specs.Terms.{Scope, term_faults, terms_faults, atom_own, basic_by, basic_own}
use Rattle.pl_check.specs.Terms.{basic_faults, arity_of, head_of}
use Rattle.pl_check.specs.Conditions.{counted, condition_by, condition_own, by_head, condition_faults}
use Rattle.pl_check.specs.Conditions.{conjuncts_faults, precondition_faults, effect_faults}
use Rattle.pl_check.specs.declared.fault.InputFault.{InputFault}
use Rattle.pl_check.specs.Known.{Known}
use Rattle.pl_check.specs.Actions.{pairs, key_faults, parameters_faults, value_faults, pairs_faults}
use Rattle.pl_check.specs.Actions.{first_place, action_faults, action_scope}
use Rattle.pl_check.specs.Sections.{Earlier, is_action_form, is_domain_name, has_shape, section_own}
use Rattle.pl_check.specs.Sections.{section_inside, domain_section, domain_inside, problem_section}
use Rattle.pl_check.specs.Sections.{problem_inside, problem_scope, section_keys, is_action}
use Rattle.pl_check.specs.Sections.{requirement_faults, earlier_after, sections_faults}
use Rattle.pl_check.specs.Files.{define_own, define_inside, form_faults, further_faults, file_faults}
use Rattle.pl_check.specs.FirstFault.{in_file, known_in, first_of}
use Rattle.pl_check.specs.Laws.{kind_number, NoLater, IsLeast, FirstFaultIsLeast}
use Rattle.pl_check.proofs.RiseLemmas.{key, first_least, Rises, Lie, AtTree, InTree, rises-lower, rises-upper}
use Rattle.pl_check.proofs.RiseLemmas.{rises-append, rises-if, rises-cond, rises-inside, lie-ends, lie-lower}
use Rattle.pl_check.proofs.RiseLemmas.{lie-drop, lie-members, lie-elements, in-at, in-inside, rises-flat}

kind_small : (k : FaultKind) → kind_number k ≤ 12
kind_small kind.BadByte = omega arith
kind_small kind.StrayClose = omega arith
kind_small kind.TooDeep = omega arith
kind_small kind.Unclosed = omega arith
kind_small kind.NotOneForm = omega arith
kind_small kind.BadForm = omega arith
kind_small kind.Unsupported = omega arith
kind_small kind.Duplicate = omega arith
kind_small kind.UnknownType = omega arith
kind_small kind.UnknownPredicate = omega arith
kind_small kind.UnknownName = omega arith
kind_small kind.WrongArity = omega arith
kind_small kind.TooMany = omega arith

-- one test at a place
at-if : (at : ℕ) (test : Bool) (k : FaultKind) → Rises (at * 16) (at * 16 + 15) (fault_if test at k)
at-if at test k = rises-if (at * 16) (at * 16 + 15) test at k (omega arith) (omega (arith, kind_small k))

-- two tests at a place, of a lesser kind first
at-two : (at : ℕ) (test test' : Bool) (k k' : FaultKind) → kind_number k ≤ kind_number k' →
    Rises (at * 16) (at * 16 + 15) (fault_if test at k ++ fault_if test' at k')
at-two at test test' k k' le =
    rises-append (at * 16) (at * 16 + kind_number k) (at * 16 + 15) (fault_if test at k)
    (fault_if test' at k')
    (rises-if (at * 16) (at * 16 + kind_number k) test at k (omega arith) (omega arith))
    (rises-if (at * 16 + kind_number k) (at * 16 + 15) test' at k' (omega arith)
    (omega (arith, kind_small k')))

-- Typed lists.

at-item : (text : List ℕ) (role : TypedRole) (before : Before) (tree : Tree) →
    AtTree tree (item_faults text role before tree)
unfolding item_faults
at-item text role before tree = at-two (place tree) _ _ kind.BadForm kind.Duplicate (omega arith)

at-type_name : (text : List ℕ) (types : List (List ℕ)) (tree : Tree) →
    AtTree tree (type_name_faults text types tree)
unfolding type_name_faults
at-type_name text types tree =
    rises-cond _ _ (is_name (word_of text tree)) _ _ (at-if (place tree) _ kind.UnknownType)
    (at-if (place tree) true kind.BadForm)

at-dash : (before : Before) (is_last : Bool) (tree : Tree) → AtTree tree (dash_faults before is_last tree)
unfolding dash_faults
at-dash before is_last tree = at-if (place tree) _ kind.BadForm

in-type_name : (text : List ℕ) (types : List (List ℕ)) (low high : ℕ) (tree : Tree) →
    LiesBetween low high tree →
    InTree tree (type_name_faults text types tree)
in-type_name text types low high tree lies = in-at low high tree _ lies (at-type_name text types tree)

in-type : (text : List ℕ) (types : List (List ℕ)) (role : TypedRole) (low high : ℕ) (tree : Tree) →
    LiesBetween low high tree →
    InTree tree (type_faults text types role tree)
unfolding type_faults
in-type text types role low high tree lies =
    rises-cond _ _ (is_list tree) _ _
    (in-inside low high tree _ _ lies (at-if (place tree) _ kind.BadForm)
    (λ none. rises-flat (type_name_faults text types) (in-type_name text types) (place tree + 1)
    (span_of tree).to
    (drop 1 (elements tree))
    (lie-drop 1 (place tree + 1) (span_of tree).to (elements tree) (lie-elements low high tree lies))))
    (in-type_name text types low high tree lies)

in-element : (text : List ℕ) (types : List (List ℕ)) (role : TypedRole) (before : Before) (is_last : Bool)
    (low high : ℕ)
    (tree : Tree) → LiesBetween low high tree →
    InTree tree (element_faults text types role before is_last tree)
unfolding element_faults
in-element text types role before is_last low high tree lies =
    rises-cond _ _ before.after_dash _ _ (in-type text types role low high tree lies)
    (rises-cond _ _ (is_dash text tree) _ _ (in-at low high tree _ lies (at-dash before is_last tree))
    (in-at low high tree _ lies (at-item text role before tree)))

pub rises-typed : (text : List ℕ) (types : List (List ℕ)) (role : TypedRole) (before : Before)
    (low high : ℕ) (trees : List Tree) →
    Lie low high trees → Rises (low * 16) (high * 16) (typed_faults text types role before trees)
rises-typed text types role before low high [] h = omega (arith, h)
rises-typed text types role before low high (t ∷ trees) h =
    rises-append (low * 16) ((span_of t).to * 16) (high * 16) _ _
    (rises-lower (place t * 16) (low * 16) ((span_of t).to * 16) _
    (omega (arith, LiesBetween-from low high t h.0))
    (in-element text types role before _ low high t h.0))
    (rises-typed text types role (after text role t before) (span_of t).to high trees h.1)

-- Declarations of predicates.

at-declaration : (text : List ℕ) (earlier : List (List ℕ)) (tree : Tree) →
    AtTree tree (declaration_own text earlier tree)
unfolding declaration_own
at-declaration text earlier tree =
    rises-cond _ _ (is_declaration text tree) _ _
    (at-two (place tree) _ _ kind.Duplicate kind.TooMany (omega arith))
    (at-if (place tree) true kind.BadForm)

in-declaration : (text : List ℕ) (types earlier : List (List ℕ)) (low high : ℕ) (tree : Tree) →
    LiesBetween low high tree →
    InTree tree (declaration_faults text types earlier tree)
unfolding declaration_faults
in-declaration text types earlier low high tree lies =
    in-inside low high tree _ _ lies (at-declaration text earlier tree)
    (λ none. rises-typed text types Variables at_start (place tree + 1) (span_of tree).to
    (drop 1 (elements tree))
    (lie-drop 1 (place tree + 1) (span_of tree).to (elements tree) (lie-elements low high tree lies)))

pub rises-predicates : (text : List ℕ) (types earlier : List (List ℕ)) (low high : ℕ) (trees : List Tree) →
    Lie low high trees →
    Rises (low * 16) (high * 16) (predicates_faults text types earlier trees)
rises-predicates text types earlier low high [] h = omega (arith, h)
rises-predicates text types earlier low high (t ∷ trees) h =
    rises-append (low * 16) ((span_of t).to * 16) (high * 16) _ _
    (rises-lower (place t * 16) (low * 16) ((span_of t).to * 16) _
    (omega (arith, LiesBetween-from low high t h.0))
    (in-declaration text types earlier low high t h.0))
    (rises-predicates text types (names_after text t earlier) (span_of t).to high trees h.1)

-- Terms, atoms and equalities.

at-term : (scope : Scope) (tree : Tree) → AtTree tree (term_faults scope tree)
unfolding term_faults
at-term scope tree =
    rises-cond _ _ (is_variable (word_of scope.text tree) || is_name (word_of scope.text tree)) _ _
    (at-if (place tree) _ kind.UnknownName) (at-if (place tree) true kind.BadForm)

rises-terms : (scope : Scope) (low high : ℕ) (trees : List Tree) → Lie low high trees →
    Rises (low * 16) (high * 16) (terms_faults scope trees)
rises-terms scope low high trees h =
    rises-flat (term_faults scope) (λ l u t lies. in-at l u t _ lies (at-term scope t)) low high trees h

-- the tests of a list itself, none of which is of a later kind than a wrong arity
one-if : (at : ℕ) (test : Bool) (k : FaultKind) → kind_number k ≤ 11 →
    Rises (at * 16) (at * 16 + 11) (fault_if test at k)
one-if at test k le = rises-if (at * 16) (at * 16 + 11) test at k (omega arith) (omega arith)

at-atom : (arity : Option ℕ) (count at : ℕ) → Rises (at * 16) (at * 16 + 11) (atom_own arity count at)
at-atom None count at = one-if at true kind.UnknownPredicate (omega arith)
at-atom (Some arity) count at = one-if at _ kind.WrongArity (omega arith)

at-basic_by : (head : Head) (scope : Scope) (equality : Bool) (at : ℕ) (forms : List Tree) →
    Rises (at * 16) (at * 16 + 11) (basic_by head scope equality at forms)
at-basic_by Nothing scope equality at forms = one-if at true kind.BadForm (omega arith)
at-basic_by NoName scope equality at forms = one-if at true kind.BadForm (omega arith)
at-basic_by And scope equality at forms = one-if at true kind.Unsupported (omega arith)
at-basic_by Not scope equality at forms = one-if at true kind.Unsupported (omega arith)
at-basic_by Reserved scope equality at forms = one-if at true kind.Unsupported (omega arith)
at-basic_by Equals scope equality at forms =
    rises-cond _ _ equality _ _ (one-if at _ kind.WrongArity (omega arith))
    (one-if at true kind.Unsupported (omega arith))
at-basic_by Name scope equality at forms = at-atom (arity_of scope.known (head_word scope.text forms)) _ at

at-more : (at : ℕ) (faults : List Fault) → Rises (at * 16) (at * 16 + 11) faults →
    Rises (at * 16) (at * 16 + 15) faults
at-more at faults h = rises-upper (at * 16) (at * 16 + 11) (at * 16 + 15) faults (omega arith) h

at-basic : (scope : Scope) (equality : Bool) (tree : Tree) → AtTree tree (basic_own scope equality tree)
unfolding basic_own
at-basic scope equality tree =
    at-more (place tree) _
    (at-basic_by (head_of scope.text (elements tree)) scope equality (place tree) (elements tree))

pub in-basic : (scope : Scope) (equality : Bool) (low high : ℕ) (tree : Tree) → LiesBetween low high tree →
    InTree tree (basic_faults scope equality tree)
unfolding basic_faults
in-basic scope equality low high tree lies =
    in-inside low high tree _ _ lies (at-basic scope equality tree)
    (λ none. rises-terms scope (place tree + 1) (span_of tree).to (drop 1 (elements tree))
    (lie-drop 1 (place tree + 1) (span_of tree).to (elements tree) (lie-elements low high tree lies)))

-- Conditions and effects.

at-condition_by : (head : Head) (scope : Scope) (equality : Bool) (at : ℕ) (forms : List Tree) →
    Rises (at * 16) (at * 16 + 11) (condition_by head scope equality at forms)
at-condition_by Nothing scope equality at forms = omega arith
at-condition_by And scope equality at forms = omega arith
at-condition_by Not scope equality at forms = one-if at _ kind.BadForm (omega arith)
at-condition_by NoName scope equality at forms = at-basic_by NoName scope equality at forms
at-condition_by Equals scope equality at forms = at-basic_by Equals scope equality at forms
at-condition_by Reserved scope equality at forms = at-basic_by Reserved scope equality at forms
at-condition_by Name scope equality at forms = at-basic_by Name scope equality at forms

one-condition : (scope : Scope) (equality : Bool) (tree : Tree) →
    Rises (place tree * 16) (place tree * 16 + 11) (condition_own scope equality tree)
unfolding condition_own
one-condition scope equality tree =
    rises-cond _ _ (is_list tree) _ _
    (at-condition_by (head_of scope.text (elements tree)) scope equality (place tree) (elements tree))
    (one-if (place tree) true kind.BadForm (omega arith))

rises-by_head : (low high : ℕ) (head : Head) (conjuncts negated terms : List Fault) →
    Rises low high conjuncts →
    Rises low high negated → Rises low high terms → Rises low high (by_head head conjuncts negated terms)
rises-by_head low high And xs ys zs h k l = h
rises-by_head low high Not xs ys zs h k l = k
rises-by_head low high Nothing xs ys zs h k l = l
rises-by_head low high NoName xs ys zs h k l = l
rises-by_head low high Equals xs ys zs h k l = l
rises-by_head low high Reserved xs ys zs h k l = l
rises-by_head low high Name xs ys zs h k l = l

mutual
  pub in-condition : (scope : Scope) (equality : Bool) (low high : ℕ) (tree : Tree) →
      LiesBetween low high tree →
      InTree tree (condition_faults scope equality tree)
  in-condition scope equality low high (word span) lies =
      in-at low high (word span) _ lies (at-more span.from _ (one-condition scope equality (word span)))
  in-condition scope equality low high (list span end) lies =
      in-at low high (list span end) _ lies
      (at-more span.from _ (one-condition scope equality (list span end)))
  in-condition scope equality low high (list span (more head rest)) lies =
      let first = lies.3.0 in
      let from = LiesBetween-from (span.from + 1) (span.to - 1) head first in
      let some = LiesBetween-some (span.from + 1) (span.to - 1) head first in
      let ends = lie-ends (span_of head).to (span.to - 1) (members rest)
      (lie-members (span_of head).to (span.to - 1) rest lies.3.1) in
      let conjuncts = rises-lower ((span_of head).to * 16) ((span.from + 1) * 16) ((span.to - 1) * 16) _
      (omega (arith, from, some))
      (rises-conjuncts scope equality (span_of head).to (span.to - 1) rest lies.3.1)
      in
      let behind = lie-lower (span_of head).to (span.from + 1) (span.to - 1) (members rest)
      (omega (arith, from, some))
      (lie-members (span_of head).to (span.to - 1) rest lies.3.1)
      in
      in-inside low high (list span (more head rest)) _ _ lies
      (at-more span.from _ (one-condition scope equality (list span (more head rest))))
      (λ none. rises-upper ((span.from + 1) * 16) ((span.to - 1) * 16) (span.to * 16) _ (omega arith)
      (rises-by_head ((span.from + 1) * 16) ((span.to - 1) * 16)
      (head_of scope.text (head ∷ members rest)) _ _ _ conjuncts
      (rises-flat (basic_faults scope equality) (in-basic scope equality) (span.from + 1) (span.to - 1)
      (members rest) behind)
      (rises-terms scope (span.from + 1) (span.to - 1) (members rest) behind)))

  rises-conjuncts : (scope : Scope) (equality : Bool) (low high : ℕ) (trees : Trees) →
      LieBetween low high trees →
      Rises (low * 16) (high * 16) (conjuncts_faults scope equality trees)
  rises-conjuncts scope equality low high end h = omega (arith, h)
  rises-conjuncts scope equality low high (more t rest) h =
      rises-append (low * 16) ((span_of t).to * 16) (high * 16) _ _
      (rises-lower (place t * 16) (low * 16) ((span_of t).to * 16) _
      (omega (arith, LiesBetween-from low high t h.0))
      (in-condition scope equality low high t h.0))
      (rises-conjuncts scope equality (span_of t).to high rest h.1)

pub in-precondition : (scope : Scope) (low high : ℕ) (tree : Tree) → LiesBetween low high tree →
    InTree tree (precondition_faults scope tree)
unfolding precondition_faults
in-precondition scope low high tree lies =
    rises-cond _ _ (nat_lt 1024 (counted scope.text tree)) _ _
    (in-at low high tree _ lies
    (rises-append (place tree * 16) (place tree * 16 + 11) (place tree * 16 + 15) _ _
    (one-condition scope true tree)
    (rises-if (place tree * 16 + 11) (place tree * 16 + 15) true (place tree) kind.TooMany (omega arith)
    (omega arith))))
    (in-condition scope true low high tree lies)

-- Actions.

at-key : (scope : Scope) (earlier : List (List ℕ)) (name : Tree) → AtTree name (key_faults scope earlier name)
unfolding key_faults
at-key scope earlier name =
    rises-cond _ _ (is_key (word_of scope.text name)) _ _
    (at-two (place name) _ _ kind.Unsupported kind.Duplicate (omega arith))
    (at-if (place name) true kind.BadForm)

in-parameters : (scope : Scope) (low high : ℕ) (value : Tree) → LiesBetween low high value →
    InTree value (parameters_faults scope value)
unfolding parameters_faults
in-parameters scope low high value lies =
    in-inside low high value _ _ lies (at-two (place value) _ _ kind.BadForm kind.TooMany (omega arith))
    (λ none. rises-typed scope.text scope.known.types Parameters at_start (place value + 1)
    (span_of value).to (elements value)
    (lie-elements low high value lies))

in-value : (scope : Scope) (name : List ℕ) (low high : ℕ) (value : Tree) → LiesBetween low high value →
    InTree value (value_faults scope name value)
unfolding value_faults
in-value scope name low high value lies =
    rises-cond _ _ (bytes_eq name (codes ":parameters")) _ _ (in-parameters scope low high value lies)
    (rises-cond _ _ (bytes_eq name (codes ":precondition")) _ _ (in-precondition scope low high value lies)
    (in-condition scope false low high value lies))

rises-pairs : (scope : Scope) (earlier : List (List ℕ)) (low high : ℕ) (trees : List Tree) →
    Lie low high trees →
    Rises (low * 16) (high * 16) (pairs_faults scope earlier trees)
rises-pairs scope earlier low high [] h = omega (arith, h)
rises-pairs scope earlier low high (name ∷ []) h = omega (arith, lie-ends low high (name ∷ []) h)
rises-pairs scope earlier low high (name ∷ value ∷ rest) h =
    let from = LiesBetween-from low high name h.0 in
    let some = LiesBetween-some low high name h.0 in
    let from' = LiesBetween-from (span_of name).to high value h.1.0 in
    let some' = LiesBetween-some (span_of name).to high value h.1.0 in
    rises-append (low * 16) ((span_of value).to * 16) (high * 16) _ _
    (rises-lower (place name * 16) (low * 16) ((span_of value).to * 16) _ (omega (arith, from))
    (rises-inside (place name * 16) ((span_of value).to * 16) _ _
    (rises-upper (place name * 16) (place name * 16 + 15) ((span_of value).to * 16) _
    (omega (arith, some, from', some'))
    (at-key scope earlier name))
    (λ none. rises-lower (place value * 16) (place name * 16) ((span_of value).to * 16) _
    (omega (arith, some, from'))
    (in-value scope (word_of scope.text name) (span_of name).to high value h.1.0))))
    (rises-pairs scope (earlier ++ word_of scope.text name ∷ []) (span_of value).to high rest h.1.1)

-- an action that is named: its name, then its pairs
rises-named : (scope : Scope) (test : Bool) (low high : ℕ) (trees : List Tree) → Lie low high trees →
    0 < length (drop 1 trees) →
    Rises (low * 16) (high * 16)
    (fault_if test (first_place (drop 1 trees)) kind.Duplicate ++ pairs_faults scope [] (drop 2 trees))
rises-named scope test low high [] h some = absurd (omega arith)
rises-named scope test low high (head ∷ []) h some = absurd (omega arith)
rises-named scope test low high (head ∷ name ∷ rest) h some =
    let from = LiesBetween-from low high head h.0 in
    let has = LiesBetween-some low high head h.0 in
    let from' = LiesBetween-from (span_of head).to high name h.1.0 in
    let has' = LiesBetween-some (span_of head).to high name h.1.0 in
    rises-append (low * 16) ((span_of name).to * 16) (high * 16) _ _
    (rises-if (low * 16) ((span_of name).to * 16) test (place name) kind.Duplicate
    (omega (arith, from, has, from'))
    (omega (arith, has')))
    (rises-pairs scope [] (span_of name).to high rest h.1.1)

is-named : (text : List ℕ) (trees : List Tree) → is_action_form text trees ≡ true → 0 < length (drop 1 trees)
unfolding is_action_form head_word is_name
is-named text [] h = cc
is-named text (head ∷ []) h = cc
is-named text (head ∷ name ∷ rest) h = omega arith

in-action : (text : List ℕ) (known : Known) (earlier : List (List ℕ)) (low high : ℕ) (action : Tree) →
    LiesBetween low high action → is_action_form text (elements action) ≡ true →
    Rises ((place action + 1) * 16) ((span_of action).to * 16) (action_faults text known earlier action)
unfolding action_faults
in-action text known earlier low high action lies named =
    rises-named (action_scope text known (pairs action)) _ (place action + 1) (span_of action).to
    (elements action)
    (lie-elements low high action lies) (is-named text (elements action) named)

-- Sections.

at-three : (at : ℕ) (test test' test'' : Bool) (k k' k'' : FaultKind) → kind_number k ≤ kind_number k' →
    kind_number k' ≤ kind_number k'' →
    Rises (at * 16) (at * 16 + 15) (fault_if test at k ++ fault_if test' at k' ++ fault_if test'' at k'')
at-three at test test' test'' k k' k'' le le' =
    rises-append (at * 16) (at * 16 + kind_number k') (at * 16 + 15)
    (fault_if test at k ++ fault_if test' at k') (fault_if test'' at k'')
    (rises-append (at * 16) (at * 16 + kind_number k) (at * 16 + kind_number k') (fault_if test at k)
    (fault_if test' at k')
    (rises-if (at * 16) (at * 16 + kind_number k) test at k (omega arith) (omega arith))
    (rises-if (at * 16 + kind_number k) (at * 16 + kind_number k') test' at k' (omega arith) (omega arith)))
    (rises-if (at * 16 + kind_number k') (at * 16 + 15) test'' at k'' (omega arith)
    (omega (arith, kind_small k'')))

at-section : (text : List ℕ) (role : FileRole) (earlier : List (List ℕ)) (section : Tree) →
    AtTree section (section_own text role earlier section)
unfolding section_own
at-section text role earlier section =
    rises-cond _ _ (is_key (head_word text (elements section))) _ _
    (at-three (place section) _ _ _ kind.BadForm kind.Unsupported kind.Duplicate (omega arith) (omega arith))
    (at-if (place section) true kind.BadForm)

in-requirement : (low high : ℕ) (tree : Tree) → LiesBetween low high tree →
    InTree tree (requirement_faults tree)
unfolding requirement_faults
in-requirement low high tree lies = in-at low high tree _ lies (at-if (place tree) _ kind.BadForm)

-- a section without a fault of its own has the shape that its key asks for
has-shape : (is_one shape : Bool) (at : ℕ) (rest last : List Fault) →
    cond is_one (fault_if (not shape) at kind.BadForm ++ rest ++ last)
    (fault_if true at kind.BadForm) ≡ [] → shape ≡ true
has-shape true true at rest last h = refl
has-shape true false at rest last h = cc
has-shape false shape at rest last h = cc

section-shape : (text : List ℕ) (role : FileRole) (earlier : List (List ℕ)) (section : Tree) →
    section_own text role earlier section ≡ [] → has_shape text (elements section) ≡ true
unfolding section_own
section-shape text role earlier section none =
    has-shape (is_key (head_word text (elements section))) (has_shape text (elements section)) (place section)
    (fault_if (not (list_any (bytes_eq (head_word text (elements section))) (section_keys role)))
    (place section) kind.Unsupported)
    (fault_if (list_any (bytes_eq (head_word text (elements section))) earlier)
    (place section) kind.Duplicate) none

action-shape : (text : List ℕ) (trees : List Tree) → has_shape text trees ≡ true →
    bytes_eq (head_word text trees) (codes ":action") ≡ true → is_action_form text trees ≡ true
unfolding has_shape
action-shape text trees shape named =
    let same : head_word text trees ≡ codes ":action" =
    (bytes_eq-Decides (head_word text trees) (codes ":action")).0 named in
    subst (λ (key : List ℕ).
    cond (bytes_eq key (codes ":domain")) (is_domain_name text trees)
    (cond (bytes_eq key (codes ":goal")) (nat_le (length trees) 2)
    (cond (bytes_eq key (codes ":action")) (is_action_form text trees) true))
    ≡ true) same shape

rises-when : (low high : ℕ) (test : Bool) (xs ys : List Fault) → (test ≡ true → Rises low high xs) →
    Rises low high ys →
    Rises low high (cond test xs ys)
rises-when low high true xs ys h k = h refl
rises-when low high false xs ys h k = k

rises-domain_inside : (text : List ℕ) (known : Known) (name : List ℕ) (low high : ℕ) (trees : List Tree) →
    Lie low high trees →
    Rises (low * 16) (high * 16) (domain_inside text known name trees)
unfolding domain_inside
rises-domain_inside text known name low high trees lie =
    rises-cond _ _ (bytes_eq name (codes ":requirements")) _ _
    (rises-flat requirement_faults in-requirement low high trees lie)
    (rises-cond _ _ (bytes_eq name (codes ":types") || bytes_eq name (codes ":constants")) _ _
    (rises-typed text known.types Names at_start low high trees lie)
    (rises-cond _ _ (bytes_eq name (codes ":predicates")) _ []
    (rises-predicates text known.types [] low high trees lie)
    (omega (arith, lie-ends low high trees lie))))

in-domain_section : (text : List ℕ) (known : Known) (earlier : Earlier) (low high : ℕ) (section : Tree) →
    LiesBetween low high section → has_shape text (elements section) ≡ true →
    Rises ((place section + 1) * 16) ((span_of section).to * 16) (domain_section text known earlier section)
unfolding domain_section
in-domain_section text known earlier low high section lies shape =
    rises-when _ _ (is_action text section) _ _
    (λ is. in-action text known earlier.actions low high section lies
    (action-shape text (elements section) shape is))
    (rises-domain_inside text known (head_word text (elements section)) (place section + 1)
    (span_of section).to
    (drop 1 (elements section))
    (lie-drop 1 (place section + 1) (span_of section).to (elements section)
    (lie-elements low high section lies)))

rises-problem_inside : (scope : Scope) (name : List ℕ) (low high : ℕ) (trees : List Tree) →
    Lie low high trees →
    Rises (low * 16) (high * 16) (problem_inside scope name trees)
unfolding problem_inside
rises-problem_inside scope name low high trees lie =
    rises-cond _ _ (bytes_eq name (codes ":requirements")) _ _
    (rises-flat requirement_faults in-requirement low high trees lie)
    (rises-cond _ _ (bytes_eq name (codes ":objects")) _ _
    (rises-typed scope.text scope.known.types Names at_start low high trees lie)
    (rises-cond _ _ (bytes_eq name (codes ":init")) _ _
    (rises-flat (basic_faults scope false) (in-basic scope false) low high trees lie)
    (rises-cond _ _ (bytes_eq name (codes ":goal")) _ []
    (rises-flat (effect_faults scope) (in-condition scope false) low high trees lie)
    (omega (arith, lie-ends low high trees lie)))))

in-problem_section : (text : List ℕ) (known : Known) (low high : ℕ) (section : Tree) →
    LiesBetween low high section →
    Rises ((place section + 1) * 16) ((span_of section).to * 16) (problem_section text known section)
unfolding problem_section
in-problem_section text known low high section lies =
    rises-problem_inside (problem_scope text known) (head_word text (elements section)) (place section + 1)
    (span_of section).to
    (drop 1 (elements section))
    (lie-drop 1 (place section + 1) (span_of section).to (elements section)
    (lie-elements low high section lies))

in-section : (role : FileRole) (text : List ℕ) (known : Known) (earlier : Earlier) (low high : ℕ)
    (section : Tree) →
    LiesBetween low high section →
    InTree section (or_inside (section_own text role earlier.keys section)
    (section_inside role text known earlier section))
in-section Domain text known earlier low high section lies =
    in-inside low high section _ _ lies (at-section text Domain earlier.keys section)
    (λ none. in-domain_section text known earlier low high section lies
    (section-shape text Domain earlier.keys section none))
in-section Problem text known earlier low high section lies =
    in-inside low high section _ _ lies (at-section text Problem earlier.keys section)
    (λ none. in-problem_section text known low high section lies)
in-section Plan text known earlier low high section lies =
    in-inside low high section _ _ lies (at-section text Plan earlier.keys section)
    (λ none. omega (arith, LiesBetween-some low high section lies))

rises-sections : (role : FileRole) (text : List ℕ) (known : Known) (earlier : Earlier) (low high : ℕ)
    (trees : List Tree) →
    Lie low high trees → Rises (low * 16) (high * 16) (sections_faults role text known earlier trees)
rises-sections role text known earlier low high [] h = omega (arith, h)
rises-sections role text known earlier low high (t ∷ trees) h =
    rises-append (low * 16) ((span_of t).to * 16) (high * 16) _ _
    (rises-lower (place t * 16) (low * 16) ((span_of t).to * 16) _
    (omega (arith, LiesBetween-from low high t h.0))
    (in-section role text known earlier low high t h.0))
    (rises-sections role text known (earlier_after text t earlier) (span_of t).to high trees h.1)

-- Files.

at-define : (text : List ℕ) (tree : Tree) → AtTree tree (define_own text tree)
unfolding define_own
at-define text tree = at-if (place tree) _ kind.BadForm

rises-define : (role : FileRole) (text : List ℕ) (known : Known) (low high : ℕ) (trees : List Tree) →
    Lie low high trees →
    Rises (low * 16) (high * 16) (define_inside role text known trees)
rises-define role text known low high [] h = omega (arith, h)
rises-define role text known low high (title ∷ rest) h =
    rises-append (low * 16) ((span_of title).to * 16) (high * 16) _ _
    (rises-if (low * 16) ((span_of title).to * 16) _ (place title) kind.BadForm
    (omega (arith, LiesBetween-from low high title h.0)) (omega (arith, LiesBetween-some low high title h.0)))
    (rises-sections role text known _ (span_of title).to high rest h.1)

in-form : (role : FileRole) (text : List ℕ) (known : Known) (low high : ℕ) (tree : Tree) →
    LiesBetween low high tree →
    InTree tree (form_faults role text known tree)
unfolding form_faults
in-form role text known low high tree lies =
    rises-cond _ _ (is_list tree) _ _
    (in-inside low high tree _ _ lies (at-define text tree)
    (λ none. rises-define role text known (place tree + 1) (span_of tree).to (drop 1 (elements tree))
    (lie-drop 1 (place tree + 1) (span_of tree).to (elements tree) (lie-elements low high tree lies))))
    (in-at low high tree (fault_if true (place tree) kind.NotOneForm) lies
    (at-if (place tree) true kind.NotOneForm))

rises-further : (low high : ℕ) (trees : List Tree) → Lie low high trees →
    Rises (low * 16) (high * 16) (further_faults trees)
rises-further low high [] h = omega (arith, h)
rises-further low high (t ∷ trees) h =
    rises-if (low * 16) (high * 16) true (place t) kind.NotOneForm
    (omega (arith, LiesBetween-from low high t h.0))
    (omega (arith, LiesBetween-some low high t h.0, LiesBetween-to low high t h.0))

rises-file : (role : FileRole) (text : List ℕ) (known : Known) (size : ℕ) (trees : List Tree) →
    Lie 0 size trees →
    Rises 0 ((size + 1) * 16) (file_faults role text known size trees)
rises-file role text known size [] h =
    rises-if 0 ((size + 1) * 16) true size kind.NotOneForm (omega arith) (omega arith)
rises-file role text known size (t ∷ trees) h =
    rises-append 0 ((span_of t).to * 16) ((size + 1) * 16) _ _
    (rises-lower (place t * 16) 0 ((span_of t).to * 16) _ (omega arith)
    (in-form role text known 0 size t h.0))
    (rises-upper ((span_of t).to * 16) (size * 16) ((size + 1) * 16) _ (omega arith)
    (rises-further (span_of t).to size trees h.1))

-- The two files.

later : (fault other : Fault) → key fault ≤ key other →
    (fault.at < other.at) ⊎ ((fault.at ≡ other.at) × (kind_number fault.kind ≤ kind_number other.kind))
later fault other le =
    let small = kind_small fault.kind in
    let small' = kind_small other.kind in
    elim (cases_lt fault.at other.at) [
      | inl lt ↦ inl lt
      | inr ge ↦
          let same : fault.at ≡ other.at = omega (arith, le, small, small', ge) in
          inr (same, omega (arith, le, same))
    ]

least-in : (file : FileRole) (low high : ℕ) (fault : Fault) (rest : List Fault) →
    Rises low high (fault ∷ rest) →
    All (NoLater (in_file file fault)) (map (in_file file) (fault ∷ rest))
least-in file low high fault rest h =
    All-map (NoLater (in_file file fault)) (in_file file) (fault ∷ rest)
    (All-weaker (λ f. key fault ≤ key f) (λ f. NoLater (in_file file fault) (in_file file f))
    (λ f le. inr (refl, later fault f le)) (fault ∷ rest) (first_least low high fault rest h))

least-before : (fault : Fault) (others : List Fault) →
    All (NoLater (in_file Domain fault)) (map (in_file Problem) others)
least-before fault others =
    All-map (NoLater (in_file Domain fault)) (in_file Problem) others (all_before others)
  where
    all_before : (fs : List Fault) → All (λ f. NoLater (in_file Domain fault) (in_file Problem f)) fs
    all_before [] = All-nil (λ f. NoLater (in_file Domain fault) (in_file Problem f))
    all_before (f ∷ fs) =
        All-cons (λ f. NoLater (in_file Domain fault) (in_file Problem f)) f fs (inl (omega arith))
        (all_before fs)

least-of : (low high low' high' : ℕ) (faults others : List Fault) (fault : InputFault) →
    Rises low high faults →
    Rises low' high' others →
    first_of (map (in_file Domain) faults ++ map (in_file Problem) others) ≡ Some fault →
    IsLeast fault (map (in_file Domain) faults ++ map (in_file Problem) others)
least-of low high low' high' [] [] fault h k is = cc
least-of low high low' high' [] (g ∷ others) fault h k is =
    let same : in_file Problem g ≡ fault = cc in
    subst (λ f. IsLeast f (map (in_file Problem) (g ∷ others))) same (record {
      among = (0, omega arith, refl);
      least = least-in Problem low' high' g others k;
    })
least-of low high low' high' (f ∷ faults) others fault h k is =
    let same : in_file Domain f ≡ fault = cc in
    subst (λ f'. IsLeast f' (map (in_file Domain) (f ∷ faults) ++ map (in_file Problem) others)) same
    (record {
      among = (0, omega arith, refl);
      least =
          All-append (NoLater (in_file Domain f)) (map (in_file Domain) (f ∷ faults))
          (map (in_file Problem) others)
          (least-in Domain low high f faults h) (least-before f others);
    })

pub first-least : FirstFaultIsLeast
first-least domain problem domain_trees problem_trees fault are are' is =
    let known = known_in domain domain_trees problem problem_trees in
    least-of 0 _ 0 _ _ _ fault
    (rises-file Domain (folded domain) known (length domain) (members domain_trees)
    (lie-members 0 (length domain) domain_trees (AreTreesOf-lie domain domain_trees are)))
    (rises-file Problem (folded problem) known (length problem) (members problem_trees)
    (lie-members 0 (length problem) problem_trees (AreTreesOf-lie problem problem_trees are')))
    is
