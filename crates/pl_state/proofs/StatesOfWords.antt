-- Which state the words of a layout stand for.
use Rattle.std.proofs.Common.{◌≡◌, ◌↔◌, ◌+◌, ◌<◌, get_or, ℕ, Bool, true, false, not, List, [], ◌++◌, length}
use Rattle.std.proofs.Common.{refl, sym, ap, ◌∙◌, subst, inl, inr, All, Contains, IsTrue, arith, slice_get}
use Rattle.std.proofs.Common.{Some, None, Option}
use Rattle.std.proofs.Math.Path.{fun_ext}
use Rattle.std.specs.List.{list_any}
use Rattle.std.specs.Str.{bytes_eq}
use Rattle.std.proofs.lemmas.Bool.{cases_Bool, cond-true, cond-false}
use Rattle.std.proofs.lemmas.List.{append-nil}
use Rattle.std.proofs.lemmas.List.Folds.{Any-from_list_any, list_any-from_Any}
use Rattle.std.proofs.lemmas.Slice.Eq.{bytes_eq-Decides}
use Rattle.pl_rows.proofs.Canonical.{same_rows}
use Rattle.pl_task.specs.declared.data.Atom.{Atom}
use Rattle.pl_task.specs.declared.data.PredicateDef.{PredicateDef}
use Rattle.pl_task.specs.declared.task.Task.{Task}
use Rattle.pl_task.specs.States.{State, initial}
use Rattle.pl_state.specs.Layout.{atom_of, parts_from, AreTrueRows, IsLayoutOf}
use Rattle.pl_state.specs.StateOf.{rows_in, is_fluent_one, is_fluent_in, state_in, IsStateOf}
use Rattle.pl_state.specs.Laws.{AgreeOnFluents}
use Rattle.pl_state.proofs.PartWords.{AreWide, rows_in-parts, parts_from-agree}

-- tests that hold in the same cases are equal
pub same_test : (x y : Bool) → IsTrue x ↔ IsTrue y → x ≡ y
same_test true y h = sym (h.0 refl)
same_test false true h = h.1 refl
same_test false false h = refl

-- a row is found among the rows just where it is one of them
pub among_rows : (rows : List (List ℕ)) (row : List ℕ) → IsTrue (list_any (bytes_eq row) rows) ↔
    Contains rows row
among_rows rows row = (
  (λ h. found (Any-from_list_any (bytes_eq row) rows h)),
  (λ (k, within, is). list_any-from_Any (bytes_eq row) rows (
    k,
    row,
    within,
    is,
    (bytes_eq-Decides row row).1 refl,
  )),
)
  where
    found : (k : ℕ) × (x : List ℕ) × (k < length rows) × (get_or rows k x ≡ x) × (bytes_eq row x ≡ true) →
        Contains rows row
    found (k, x, within, is, same) =
        subst (Contains rows) (sym ((bytes_eq-Decides row x).0 same)) (k, within, is)

-- the definition of a fluent predicate
pub fluent_definition : (task : Task) (p : ℕ) → is_fluent_in task p ≡ true → (d : PredicateDef) ×
    (slice_get task.predicates p ≡ Some d) × (d.is_static ≡ false)
fluent_definition task p h = by_option (slice_get task.predicates p) refl h
  where
    not_static : (b : Bool) → not b ≡ true → b ≡ false
    not_static true e = sym e
    not_static false e = refl

    by_option : (o : Option PredicateDef) → slice_get task.predicates p ≡ o → is_fluent_one o ≡ true →
        (d : PredicateDef) × (slice_get task.predicates p ≡ Some d) × (d.is_static ≡ false)
    by_option None e t = cc
    by_option (Some d) e t = (d, e, not_static d.is_static t)

pub fluent_from : (task : Task) (p : ℕ) (d : PredicateDef) → slice_get task.predicates p ≡ Some d →
    d.is_static ≡ false → is_fluent_in task p ≡ true
fluent_from task p d found fluent = ap is_fluent_one found ∙ ap not fluent

-- the rows of a layout have the widths of their predicates
pub layout_wide : (task : Task) (s : State) (words : List ℕ) (h : IsLayoutOf task s words) →
    AreWide h.rows 0 task.predicates
layout_wide task s words h p d found fluent =
    let n : 0 + p ≡ p = omega arith in
    subst (λ m. All (λ row. length row ≡ d.arity) (h.rows m)) (sym n)
    (h.true_rows p d found fluent).table.width

-- the rows of a layout are those that its words are read to have
pub layout_rows : (task : Task) (s : State) (words : List ℕ) (h : IsLayoutOf task s words) (p : ℕ)
    (d : PredicateDef) → slice_get task.predicates p ≡ Some d → d.is_static ≡ false →
    rows_in task.predicates words p ≡ h.rows p
layout_rows task s words h p d found fluent =
    let n : 0 + p ≡ p = omega arith in
    let read : rows_in task.predicates (parts_from h.rows 0 task.predicates ++ []) p ≡ h.rows (0 + p) =
    rows_in-parts h.rows 0 task.predicates [] p d (layout_wide task s words h) found fluent in
    let whole : words ≡ parts_from h.rows 0 task.predicates ++ [] =
    h.words_are ∙ sym (append-nil (parts_from h.rows 0 task.predicates)) in
    ap (λ w. rows_in task.predicates w p) whole ∙ read ∙ ap h.rows n

-- the words stand for the state's fluent atoms
pub state_in-layout : (task : Task) (s : State) (words : List ℕ) → IsLayoutOf task s words →
    AgreeOnFluents task (state_in task words) s
state_in-layout task s words h a fluent =
    let (d, found, f) = fluent_definition task a.predicate fluent in
    let true_rows = h.true_rows a.predicate d found f in
    let rows = rows_in task.predicates words a.predicate in
    cond-true (is_fluent_in task a.predicate) (list_any (bytes_eq a.objects) rows) (initial task a) fluent ∙
    same_test (list_any (bytes_eq a.objects) rows) (s a)
    (subst (λ rs. IsTrue (list_any (bytes_eq a.objects) rs) ↔ IsTrue (s a))
    (sym (layout_rows task s words h a.predicate d found f)) (
      (λ t. (true_rows.members a.objects).0 ((among_rows (h.rows a.predicate) a.objects).0 t)),
      (λ t. (among_rows (h.rows a.predicate) a.objects).1 ((true_rows.members a.objects).1 t)),
    ))

-- the layout of a state is that of any state with the same fluent atoms
pub layout_along : (task : Task) (s t : State) (words : List ℕ) → AgreeOnFluents task s t →
    IsLayoutOf task s words → IsLayoutOf task t words
layout_along task s t words agree h = record {
  rows = h.rows;
  words_are = h.words_are;
  true_rows = λ p d found fluent. along p d (fluent_from task p d found fluent)
      (h.true_rows p d found fluent);
}
  where
    along : (p : ℕ) (d : PredicateDef) → is_fluent_in task p ≡ true →
        AreTrueRows (length task.objects) s p d.arity (h.rows p) →
        AreTrueRows (length task.objects) t p d.arity (h.rows p)
    along p d fluent r = record {
      table = r.table;
      members = λ row. (
        (λ c. sym (agree (atom_of p row) fluent) ∙ (r.members row).0 c),
        (λ e. (r.members row).1 (agree (atom_of p row) fluent ∙ e)),
      );
      within = r.within;
      few = r.few;
    }

pub agree_sym : (task : Task) (s t : State) → AgreeOnFluents task s t → AgreeOnFluents task t s
agree_sym task s t h a f = sym (h a f)

-- the layout of a state is a state of the task
pub layout_state : (task : Task) (s : State) (words : List ℕ) → IsLayoutOf task s words → IsStateOf task words
layout_state task s words h =
    layout_along task s (state_in task words) words
    (agree_sym task (state_in task words) s (state_in-layout task s words h)) h

-- a set of fluent atoms has one layout
pub one_layout : (task : Task) (s t : State) (words others : List ℕ) → IsLayoutOf task s words →
    IsLayoutOf task t others → AgreeOnFluents task s t → words ≡ others
one_layout task s t words others h k agree =
    h.words_are ∙ parts_from-agree h.rows k.rows 0 task.predicates (λ p d found fluent. let n : 0 + p ≡ p =
    omega arith in rw n (same p d found fluent)) ∙ sym k.words_are
  where
    same : (p : ℕ) (d : PredicateDef) → slice_get task.predicates p ≡ Some d → d.is_static ≡ false →
        h.rows p ≡ k.rows p
    same p d found fluent =
        let a = h.true_rows p d found fluent in
        let b = k.true_rows p d found fluent in
        let f : is_fluent_in task p ≡ true = fluent_from task p d found fluent in
        same_rows (h.rows p) (k.rows p) a.table.ascending b.table.ascending
        (λ row. (
          (λ c. (b.members row).1 (sym (agree (atom_of p row) f) ∙ (a.members row).0 c)),
          (λ c. (a.members row).1 (agree (atom_of p row) f ∙ (b.members row).0 c)),
        ))

-- two sets of fluent atoms with one layout are one set
pub layouts_apart : (task : Task) (s t : State) (words : List ℕ) → IsLayoutOf task s words →
    IsLayoutOf task t words → AgreeOnFluents task s t
layouts_apart task s t words h k a f =
    sym (state_in-layout task s words h a f) ∙ state_in-layout task t words k a f

-- words that stand for one state are one list
pub one_state : (task : Task) (words others : List ℕ) → IsStateOf task words → IsStateOf task others →
    state_in task words ≡ state_in task others → words ≡ others
one_state task words others h k same =
    one_layout task (state_in task words) (state_in task others) words others h k
    (λ a f. ap (λ (s : State). s a) same)

-- a state whose other atoms are those of the initial state is the one that its layout stands for
pub state_in-whole : (task : Task) (s : State) (words : List ℕ) → IsLayoutOf task s words →
    ((a : Atom) → is_fluent_in task a.predicate ≡ false → s a ≡ initial task a) →
    state_in task words ≡ s
state_in-whole task s words h others = fun_ext at
  where
    at : (a : Atom) → state_in task words a ≡ s a
    at a = elim (cases_Bool (is_fluent_in task a.predicate)) [
      | inl t ↦ state_in-layout task s words h a t
      | inr f ↦ cond-false (is_fluent_in task a.predicate)
          (list_any (bytes_eq a.objects) (rows_in task.predicates words a.predicate)) (initial task a) f ∙
          sym (others a f)
    ]

-- any other atom is true in a packed state just where it is true initially
pub state_in-other : (task : Task) (words : List ℕ) (a : Atom) → is_fluent_in task a.predicate ≡ false →
    state_in task words a ≡ initial task a
state_in-other task words a f =
    cond-false (is_fluent_in task a.predicate)
    (list_any (bytes_eq a.objects) (rows_in task.predicates words a.predicate)) (initial task a) f
