-- Conditions over forms: what a list is, by its elements.
use Rattle.std.proofs.Common.{◌≡◌, ◌==◌, not, true, false, cond, ◌+◌, length, arith, Option, None, Some, ℕ}
use Rattle.std.proofs.Common.{Bool, List, [], ◌∷◌, ◌++◌, map, drop, refl, sym, ap, ◌∙◌, Vec, Global}
use Rattle.std.specs.Prelude.{nat_lt, is_some}
use Rattle.std.specs.List.{flat_map}
use Rattle.std.proofs.lemmas.Bool.Decides.{nat_tests}
use Rattle.pl_task.specs.declared.data.Literal.{Literal}
use Rattle.pl_text.specs.declared.form.Span.{Span}
use Rattle.pl_text.specs.declared.form.Form as form
use Rattle.pl_text.specs.declared.form.Form.{Form}
use Rattle.pl_text.specs.Trees.{Tree, word, list, Trees, end, more, members, tree_of, trees_of}
use Rattle.pl_text.proofs.TreeLaws.{tree_of_list, members-trees_of}
use Rattle.pl_check.specs.declared.fault.FaultKind.TheVariants as kind
use Rattle.pl_check.specs.declared.head.Head.{Head}
use Rattle.pl_check.specs.declared.head.Head.TheVariants.{Nothing, NoName, And, Not, Equals, Reserved, Name}
use Rattle.pl_check.specs.declared.reading.Fault.{Fault}
use Rattle.pl_check.specs.Elements.{trees, is_list, word_of, place}
use Rattle.pl_check.specs.FaultLists.{first, fault_if, or_inside}
use Rattle.pl_check.specs.Terms.{Scope, head_by, head_of, basic_by, basic_faults, terms_faults}
use Rattle.pl_check.specs.Conditions.{condition_by, condition_own, by_head, condition_faults}
use Rattle.pl_check.specs.Conditions.{conjuncts_faults, is_connective, is_basic, counted, counted_all}
use Rattle.pl_check.specs.Conditions.{left_of, precondition_faults}
use Rattle.pl_check.specs.Literals.{literals_of, conjuncts_literals, negated, basic_literal, basic_literal_by}

-- the faults of the elements of a conjunction, one after another
conjuncts_each : (scope : Scope) (equality : Bool) (inner : Trees) →
    conjuncts_faults scope equality inner ≡ flat_map (condition_faults scope equality) (members inner)
conjuncts_each scope equality end = refl
conjuncts_each scope equality (more tree rest) =
    ap (λ l. condition_faults scope equality tree ++ l) (conjuncts_each scope equality rest)

-- and their literals
literals_each : (scope : Scope) (inner : Trees) →
    conjuncts_literals scope inner ≡ flat_map (literals_of scope) (members inner)
literals_each scope end = refl
literals_each scope (more tree rest) = ap (λ l. literals_of scope tree ++ l) (literals_each scope rest)

-- the faults of a list of these elements, which begins at this place
abbrev pub list_faults : Scope → Bool → ℕ → List Tree → List Fault
list_faults scope equality at forms =
    or_inside (condition_by (head_of scope.text forms) scope equality at forms)
    (by_head (head_of scope.text forms)
    (flat_map (condition_faults scope equality) (drop 1 forms))
    (flat_map (basic_faults scope equality) (drop 1 forms))
    (terms_faults scope (drop 1 forms)))

-- and its literals
abbrev pub list_literals : Scope → List Tree → List Literal
list_literals scope forms =
    by_head (head_of scope.text forms)
    (flat_map (literals_of scope) (drop 1 forms))
    (map negated (flat_map (basic_literal scope) (drop 1 forms)))
    (basic_literal_by (head_of scope.text forms) scope forms)

inner_faults : (scope : Scope) (equality : Bool) (span : Span) (inner : Trees) →
    condition_faults scope equality (list span inner) ≡ list_faults scope equality span.from (members inner)
unfolding condition_own is_list head_of
inner_faults scope equality span end = refl
inner_faults scope equality span (more head rest) =
    ap (λ l. or_inside (condition_own scope equality (list span (more head rest)))
    (by_head (head_of scope.text (head ∷ members rest)) l
    (flat_map (basic_faults scope equality) (members rest)) (terms_faults scope (members rest))))
    (conjuncts_each scope equality rest)

inner_literals : (scope : Scope) (span : Span) (inner : Trees) →
    literals_of scope (list span inner) ≡ list_literals scope (members inner)
unfolding basic_literal head_of
inner_literals scope span end = refl
inner_literals scope span (more head rest) =
    ap (λ l. by_head (head_of scope.text (head ∷ members rest)) l
    (map negated (flat_map (basic_literal scope) (members rest)))
    (basic_literal scope (list span (more head rest)))) (literals_each scope rest)

-- the faults of a list of the program
pub faults_of_list : (scope : Scope) (equality : Bool) (span : Span) (forms : Vec Form Global) →
    condition_faults scope equality (tree_of (form.List span forms)) ≡ list_faults scope equality
    span.from (trees forms.items)
faults_of_list scope equality span forms =
    ap (condition_faults scope equality) (tree_of_list span forms) ∙
    inner_faults scope equality span (trees_of forms.items) ∙
    ap (list_faults scope equality span.from) (members-trees_of forms.items)

-- and its literals
pub literals_of_list : (scope : Scope) (span : Span) (forms : Vec Form Global) →
    literals_of scope (tree_of (form.List span forms)) ≡ list_literals scope (trees forms.items)
literals_of_list scope span forms =
    ap (literals_of scope) (tree_of_list span forms) ∙
    inner_literals scope span (trees_of forms.items) ∙
    ap (list_literals scope) (members-trees_of forms.items)

-- the faults of a form that was matched as a list with this head
pub faults_by : (scope : Scope) (equality : Bool) (f : Form) (span : Span)
    (forms : Vec Form Global) (head : Head) →
    f ≡ form.List span forms → head ≡ head_of scope.text (trees forms.items) →
    condition_faults scope equality (tree_of f) ≡
    or_inside (condition_by head scope equality span.from (trees forms.items))
    (by_head head
    (flat_map (condition_faults scope equality) (drop 1 (trees forms.items)))
    (flat_map (basic_faults scope equality) (drop 1 (trees forms.items)))
    (terms_faults scope (drop 1 (trees forms.items))))
faults_by scope equality f span forms head is begins =
    ap (λ g. condition_faults scope equality (tree_of g)) is ∙
    faults_of_list scope equality span forms ∙
    ap (λ h. or_inside (condition_by h scope equality span.from (trees forms.items))
    (by_head h
    (flat_map (condition_faults scope equality) (drop 1 (trees forms.items)))
    (flat_map (basic_faults scope equality) (drop 1 (trees forms.items)))
    (terms_faults scope (drop 1 (trees forms.items))))) (sym begins)

-- and its literals
pub literals_by : (scope : Scope) (f : Form) (span : Span) (forms : Vec Form Global) (head : Head) →
    f ≡ form.List span forms → head ≡ head_of scope.text (trees forms.items) →
    literals_of scope (tree_of f) ≡
    by_head head
    (flat_map (literals_of scope) (drop 1 (trees forms.items)))
    (map negated (flat_map (basic_literal scope) (drop 1 (trees forms.items))))
    (basic_literal_by head scope (trees forms.items))
literals_by scope f span forms head is begins =
    ap (λ g. literals_of scope (tree_of g)) is ∙
    literals_of_list scope span forms ∙
    ap (λ h. by_head h
    (flat_map (literals_of scope) (drop 1 (trees forms.items)))
    (map negated (flat_map (basic_literal scope) (drop 1 (trees forms.items))))
    (basic_literal_by h scope (trees forms.items))) (sym begins)

not_nothing : (name : List ℕ) → Nothing ≡ head_by name → ⊥
unfolding head_by
not_nothing name h = grind (arith, h)

-- nothing stands after no first element
no_rest : (text : List ℕ) (forms : List Tree) → Nothing ≡ head_of text forms → drop 1 forms ≡ []
unfolding head_of
no_rest text [] h = refl
no_rest text (tree ∷ rest) h = absurd (not_nothing (word_of text tree) h)

-- whether the list is an atom or an equality, or is neither and no conjunction or negation
abbrev pub is_simple : Head → Bool
is_simple Nothing = false
is_simple NoName = true
is_simple And = false
is_simple Not = false
is_simple Equals = true
is_simple Reserved = true
is_simple Name = true

simple_inner : {A : Type 0} (head : Head) → is_simple head ≡ true → (conjuncts negations terms : A) →
    by_head head conjuncts negations terms ≡ terms
simple_inner Nothing h a b c = cc
simple_inner NoName h a b c = refl
simple_inner And h a b c = cc
simple_inner Not h a b c = cc
simple_inner Equals h a b c = refl
simple_inner Reserved h a b c = refl
simple_inner Name h a b c = refl

simple_faults : (scope : Scope) (equality : Bool) (at : ℕ) (forms : List Tree) (head : Head) →
    is_simple head ≡ true →
    (conjuncts negations terms : List Fault) →
    or_inside (condition_by head scope equality at forms) (by_head head conjuncts negations terms) ≡
    or_inside (basic_by head scope equality at forms) terms
simple_faults scope equality at forms Nothing h a b c = cc
simple_faults scope equality at forms NoName h a b c = refl
simple_faults scope equality at forms And h a b c = cc
simple_faults scope equality at forms Not h a b c = cc
simple_faults scope equality at forms Equals h a b c = refl
simple_faults scope equality at forms Reserved h a b c = refl
simple_faults scope equality at forms Name h a b c = refl

length_trees : (forms : List Form) → length (trees forms) ≡ length forms
length_trees [] = refl
length_trees (f ∷ forms) = omega (arith, length_trees forms)

trees_rest : (forms : List Form) → trees (drop 1 forms) ≡ drop 1 (trees forms)
trees_rest [] = refl
trees_rest (f ∷ forms) = refl

-- The same by a slice of the elements and a slice of those after the first, for each head.
module _ (scope : Scope) (equality : Bool) (f : Form) (span : Span) (forms : Vec Form Global)
    (slice inner : List Form)
    (is : f ≡ form.List span forms) (same : slice ≡ forms.items) (after : inner ≡ drop 1 slice) where
  the_rest : trees inner ≡ drop 1 (trees forms.items)
  the_rest = ap trees after ∙ trees_rest slice ∙ ap (λ l. drop 1 (trees l)) same

  begins : (head : Head) → head ≡ head_of scope.text (trees slice) →
      head ≡ head_of scope.text (trees forms.items)
  begins head h = h ∙ ap (λ l. head_of scope.text (trees l)) same

  pub faults_nothing : Nothing ≡ head_of scope.text (trees slice) →
      first (condition_faults scope equality (tree_of f)) ≡ None
  faults_nothing h =
      ap first (faults_by scope equality f span forms Nothing is (begins Nothing h)) ∙
      ap (λ l. first (terms_faults scope l)) (no_rest scope.text (trees forms.items) (begins Nothing h))

  pub literals_nothing : Nothing ≡ head_of scope.text (trees slice) → literals_of scope (tree_of f) ≡ []
  literals_nothing h = literals_by scope f span forms Nothing is (begins Nothing h)

  pub faults_and : And ≡ head_of scope.text (trees slice) →
      condition_faults scope equality (tree_of f) ≡ flat_map (condition_faults scope equality) (trees inner)
  faults_and h =
      faults_by scope equality f span forms And is (begins And h) ∙
      ap (flat_map (condition_faults scope equality)) (sym the_rest)

  pub literals_and : And ≡ head_of scope.text (trees slice) →
      literals_of scope (tree_of f) ≡ flat_map (literals_of scope) (trees inner)
  literals_and h = literals_by scope f span forms And is (begins And h) ∙
      ap (flat_map (literals_of scope)) (sym the_rest)

  pub faults_not : Not ≡ head_of scope.text (trees slice) →
      condition_faults scope equality (tree_of f) ≡
      or_inside (fault_if (not (length inner == 1)) span.from kind.BadForm)
      (flat_map (basic_faults scope equality) (trees inner))
  faults_not h =
      faults_by scope equality f span forms Not is (begins Not h) ∙
      ap (λ l. or_inside (fault_if (not (length l == 1)) span.from kind.BadForm)
      (flat_map (basic_faults scope equality) l)) (sym the_rest) ∙
      ap (λ n. or_inside (fault_if (not (n == 1)) span.from kind.BadForm)
      (flat_map (basic_faults scope equality) (trees inner))) (length_trees inner)

  pub literals_not : Not ≡ head_of scope.text (trees slice) →
      literals_of scope (tree_of f) ≡ map negated (flat_map (basic_literal scope) (trees inner))
  literals_not h =
      literals_by scope f span forms Not is (begins Not h) ∙
      ap (λ l. map negated (flat_map (basic_literal scope) l)) (sym the_rest)

  pub faults_basic : (head : Head) → is_simple head ≡ true → head ≡ head_of scope.text (trees slice) →
      condition_faults scope equality (tree_of f) ≡
      or_inside (basic_by head scope equality span.from (trees slice))
      (terms_faults scope (drop 1 (trees slice)))
  faults_basic head simple h =
      faults_by scope equality f span forms head is (begins head h) ∙
      simple_faults scope equality span.from (trees forms.items) head simple _ _ _ ∙
      ap (λ l. or_inside (basic_by head scope equality span.from (trees l))
      (terms_faults scope (drop 1 (trees l)))) (sym same)

  pub literals_basic : (head : Head) → is_simple head ≡ true → head ≡ head_of scope.text (trees slice) →
      literals_of scope (tree_of f) ≡ basic_literal_by head scope (trees slice)
  literals_basic head simple h =
      literals_by scope f span forms head is (begins head h) ∙
      simple_inner head simple _ _ _ ∙
      ap (λ l. basic_literal_by head scope (trees l)) (sym same)

-- the number of atoms and equalities of conditions, one after another
abbrev pub counted_in : List ℕ → List Tree → ℕ
counted_in text [] = 0
counted_in text (tree ∷ rest) = counted text tree + counted_in text rest

counted_each : (text : List ℕ) (inner : Trees) → counted_all text inner ≡ counted_in text (members inner)
counted_each text end = refl
counted_each text (more tree rest) = ap (λ n. counted text tree + n) (counted_each text rest)

inner_counted : (text : List ℕ) (span : Span) (inner : Trees) → counted text (list span inner) ≡
    cond (is_connective (head_of text (members inner))) (counted_in text (drop 1 (members inner)))
    (cond (is_basic (head_of text (members inner))) 1 0)
unfolding is_connective is_basic head_of
inner_counted text span end = refl
inner_counted text span (more head rest) =
    ap (λ n. cond (is_connective (head_of text (head ∷ members rest))) n
    (cond (is_basic (head_of text (head ∷ members rest))) 1 0)) (counted_each text rest)

-- the number of a form that was matched as a list
pub counted_by : (text : List ℕ) (f : Form) (span : Span) (forms : Vec Form Global)
    (slice : List Form) (head : Head) →
    f ≡ form.List span forms → slice ≡ forms.items → head ≡ head_of text (trees slice) →
    counted text (tree_of f) ≡
    cond (is_connective head) (counted_in text (drop 1 (trees slice))) (cond (is_basic head) 1 0)
counted_by text f span forms slice head is same h =
    ap (λ g. counted text (tree_of g)) is ∙ ap (counted text) (tree_of_list span forms) ∙
    inner_counted text span (trees_of forms.items) ∙
    ap (λ l. cond (is_connective (head_of text l)) (counted_in text (drop 1 l))
    (cond (is_basic (head_of text l)) 1 0))
    (members-trees_of forms.items ∙ ap trees (sym same)) ∙
    ap (λ k. cond (is_connective k) (counted_in text (drop 1 (trees slice))) (cond (is_basic k) 1 0)) (sym h)

-- a list that is no conjunction counts one or none
pub counted_single : (text : List ℕ) (f : Form) (span : Span) (forms : Vec Form Global) (slice : List Form)
    (head : Head) (connective basic : Bool) →
    f ≡ form.List span forms → slice ≡ forms.items → head ≡ head_of text (trees slice) →
    connective ≡ is_connective head → connective ≡ false → basic ≡ is_basic head →
    cond basic 1 0 ≡ counted text (tree_of f)
counted_single text f span forms slice head connective basic is same h told none counts =
    ap (λ b. cond b 1 0) counts ∙
    ap (λ b. cond b (counted_in text (drop 1 (trees slice))) (cond (is_basic head) 1 0)) (sym none ∙ told) ∙
    sym (counted_by text f span forms slice head is same h)

-- a conjunction counts what its elements count
pub counted_many : (text : List ℕ) (f : Form) (span : Span) (forms : Vec Form Global)
    (slice inner : List Form) (head : Head) (connective : Bool) →
    f ≡ form.List span forms → slice ≡ forms.items → inner ≡ drop 1 slice →
    head ≡ head_of text (trees slice) →
    connective ≡ is_connective head → connective ≡ true →
    counted_in text (trees inner) ≡ counted text (tree_of f)
counted_many text f span forms slice inner head connective is same after h told some =
    ap (counted_in text) (ap trees after ∙ trees_rest slice) ∙
    ap (λ b. cond b (counted_in text (drop 1 (trees slice))) (cond (is_basic head) 1 0)) (sym some ∙ told) ∙
    sym (counted_by text f span forms slice head is same h)

-- where a part is too much, the whole is
pub left_none : (budget part further : ℕ) → None ≡ left_of budget part →
    None ≡ left_of budget (part + further)
left_none budget part further h = grind (arith, nat_tests)

-- nothing is taken from a number
pub left_zero : (budget : ℕ) → left_of budget 0 ≡ Some budget
left_zero budget = grind (arith, nat_tests)

few_of : (budget n : ℕ) → is_some (left_of budget n) ≡ true → nat_lt budget n ≡ false
few_of budget n h = grind (arith, nat_tests)

many_of : (budget n : ℕ) → is_some (left_of budget n) ≡ false → nat_lt budget n ≡ true
many_of budget n h = grind (arith, nat_tests)

-- a precondition with no more atoms and equalities than it may have is a condition
pub pre_few : (scope : Scope) (tree : Tree) (found : Option ℕ) (some : Bool) →
    found ≡ left_of 1024 (counted scope.text tree) →
    some ≡ is_some found → some ≡ true → precondition_faults scope tree ≡ condition_faults scope true tree
unfolding precondition_faults
pre_few scope tree found some is told yes_ =
    ap (λ b. cond b (condition_own scope true tree ++ fault_if true (place tree) kind.TooMany)
    (condition_faults scope true tree))
    (few_of 1024 (counted scope.text tree) (ap is_some (sym is) ∙ sym told ∙ yes_))

-- and one with more has its own faults, and too many
pub pre_many : (scope : Scope) (tree : Tree) (found : Option ℕ) (some : Bool) →
    found ≡ left_of 1024 (counted scope.text tree) →
    some ≡ is_some found → some ≡ false →
    precondition_faults scope tree ≡ condition_own scope true tree ++ fault_if true (place tree) kind.TooMany
unfolding precondition_faults
pre_many scope tree found some is told none =
    ap (λ b. cond b (condition_own scope true tree ++ fault_if true (place tree) kind.TooMany)
    (condition_faults scope true tree))
    (many_of 1024 (counted scope.text tree) (ap is_some (sym is) ∙ sym told ∙ none))
