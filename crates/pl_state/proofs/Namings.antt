-- The rows that effects name, and the least of those that are not done.
use Rattle.std.proofs.Common.{◌≡◌, ◌⊎◌, ◌↔◌, ◌+◌, ◌<◌, ◌≤◌, ℕ, Bool, true, false, not, ◌||◌, List, [], ◌∷◌}
use Rattle.std.proofs.Common.{◌++◌, length, get_or, map, take, drop, refl, sym, ap, ◌∙◌, subst, inl, inr}
use Rattle.std.proofs.Common.{Contains, IsTrue, arith, Option, Some, None, nat_eq, eqb-true, eq-eqb, ltb}
use Rattle.std.proofs.Common.{Ordering}
use Rattle.std.specs.List.{list_any}
use Rattle.std.specs.Ordering.{nat_cmp, is_lt, is_le}
use Rattle.std.specs.Str.{bytes_eq}
use denote.Ref.{Bor}
use Rattle.std.proofs.lemmas.Bool.{cases_Bool, false≢true, and_from, and_parts}
use Rattle.std.proofs.lemmas.Bool.Decides.{nat_tests}
use Rattle.std.proofs.lemmas.List.{map_push, take_more, get_or-map, length-map}
use Rattle.std.proofs.lemmas.List.Elements.{Contains-append_left, Contains-push, Contains-push_cases}
use Rattle.std.proofs.lemmas.List.Folds.{list_any-append, list_any_at}
use Rattle.pl_rows.proofs.Narrowing.{alike_more, differ_here, alike_all}
use Rattle.pl_task.specs.declared.data.Term.{Term}
use Rattle.std.proofs.lemmas.Slice.Eq.{bytes_eq-Decides}
use Rattle.pl_rows.specs.Layout.{comes_before}
use Rattle.pl_task.specs.declared.data.Atom.{Atom}
use Rattle.pl_task.specs.declared.data.Lifted.{Lifted}
use Rattle.pl_task.specs.States.{atom_at, is_same, value_of}
use Rattle.pl_task.proofs.StateLemmas.{state_of-members}
use Rattle.pl_state.specs.Layout.{atom_of}
use Rattle.pl_state.specs.Changing.{row_under, is_named, HasRow, IsNextNamed, IsNext}
use Rattle.pl_state.proofs.Orders.{below_itself, below_trans}

-- one effect names the atom, or none does
pub same_row : (args : List ℕ) (p : ℕ) (row : List ℕ) (e : Lifted) (b : Bool) → e.predicate ≡ p → IsTrue b ↔
    (row ≡ row_under args e) → b ≡ is_same (atom_of p row) (atom_at args e)
same_row args p row e b is h = by_case b h
  where
    predicate : nat_eq p e.predicate ≡ true
    predicate = eq-eqb p e.predicate (sym is)

    by_case : (x : Bool) → IsTrue x ↔ (row ≡ row_under args e) → x ≡ is_same (atom_of p row) (atom_at args e)
    by_case true k = sym
        (and_from (nat_eq p e.predicate) (bytes_eq row (row_under args e)) predicate
        ((bytes_eq-Decides row (row_under args e)).1 (k.0 refl)))
    by_case false k = elim (cases_Bool (is_same (atom_of p row) (atom_at args e))) [
      | inl t ↦ absurd (false≢true
          (k.1 ((bytes_eq-Decides row (row_under args e)).0
          (and_parts (nat_eq p e.predicate) (bytes_eq row (row_under args e)) t).1)))
      | inr f ↦ sym f
    ]

pub other_predicate : (args : List ℕ) (p : ℕ) (row : List ℕ) (e : Lifted) → (e.predicate ≡ p → ⊥) →
    false ≡ is_same (atom_of p row) (atom_at args e)
other_predicate args p row e differ = elim (cases_Bool (is_same (atom_of p row) (atom_at args e))) [
  | inl t ↦ absurd (differ
      (sym (eqb-true p e.predicate (and_parts (nat_eq p e.predicate) (bytes_eq row (row_under args e)) t).0)))
  | inr f ↦ sym f
]

-- the loop over effects
pub named_more : (args : List ℕ) (p : ℕ) (effects : List Lifted) (row : List ℕ) (i : ℕ) (e : Lifted)
    (b : Bool) → i < length effects → e ≡ get_or effects i e →
    b ≡ is_same (atom_of p row) (atom_at args e) →
    is_named args p (take (i + 1) effects) row ≡ (is_named args p (take i effects) row || (b || false))
named_more args p effects row i e b within reads is =
    ap (λ (l : List Lifted). is_named args p l row) (take_more effects i e within ∙
    ap (λ (x : Lifted). take i effects ++ x ∷ []) (sym reads)) ∙
    ap (list_any (is_same (atom_of p row))) (map_push (atom_at args) (take i effects) e) ∙
    list_any-append (is_same (atom_of p row)) (map (atom_at args) (take i effects)) (atom_at args e ∷ []) ∙
    ap (λ t. is_named args p (take i effects) row || (t || false)) (sym is)

-- a row that is named with one effect more is named by it or by the others
pub named_cases : (args : List ℕ) (p : ℕ) (before : List Lifted) (e : Lifted) (row : List ℕ) →
    is_named args p (before ++ e ∷ []) row ≡ true →
    (is_named args p before row ≡ true) ⊎ ((e.predicate ≡ p) × (row_under args e ≡ row))
named_cases args p before e row h =
    by_place (Contains-push_cases (map (atom_at args) before) (atom_at args e) (atom_of p row)
    (subst (λ (l : List Atom). Contains l (atom_of p row)) (map_push (atom_at args) before e)
    ((state_of-members (map (atom_at args) (before ++ e ∷ [])) (atom_of p row)).0 h)))
  where
    by_place : Contains (map (atom_at args) before) (atom_of p row) ⊎ (atom_at args e ≡ atom_of p row) →
        (is_named args p before row ≡ true) ⊎ ((e.predicate ≡ p) × (row_under args e ≡ row))
    by_place (inl c) = inl ((state_of-members (map (atom_at args) before) (atom_of p row)).1 c)
    by_place (inr same) = inr (ap (λ (a : Atom). a.predicate) same, ap (λ (a : Atom). a.objects) same)

-- a row of a held effect is named
pub named_held : (args : List ℕ) (p : ℕ) (effects : List Lifted) (e : Lifted) → Contains effects e →
    e.predicate ≡ p → is_named args p effects (row_under args e) ≡ true
named_held args p effects e (k, within, is) same =
    (state_of-members (map (atom_at args) effects) (atom_of p (row_under args e))).1 (
      k,
      (let l = length-map effects (atom_at args) in omega arith),
      get_or-map (atom_at args) effects k e (atom_of p (row_under args e)) within ∙ ap (atom_at args) is ∙
          whole,
    )
  where
    whole : atom_at args e ≡ atom_of p (row_under args e)
    whole = λ i. record { predicate = same i; objects = row_under args e }

-- an effect that is of another predicate, or done, changes nothing
pub next_kept : (args : List ℕ) (p : ℕ) (done : List ℕ → Bool) (before : List Lifted) (e : Lifted)
    (best : Option (Bor Lifted)) →
    (e.predicate ≡ p → done (row_under args e) ≡ true) → IsNext args p done before best →
    IsNext args p done (before ++ e ∷ []) best
next_kept args p done before e None passed h =
    λ row named. by_case row (named_cases args p before e row named)
  where
    by_case : (row : List ℕ) → (is_named args p before row ≡ true) ⊎
        ((e.predicate ≡ p) × (row_under args e ≡ row)) → done row ≡ true
    by_case row (inl old) = h row old
    by_case row (inr (same, is)) = subst (λ r. done r ≡ true) is (passed same)
next_kept args p done before e (Some best) passed h = record {
  held = Contains-append_left before (e ∷ []) best.now h.held;
  of_predicate = h.of_predicate;
  past = h.past;
  least = λ row named n. by_case row n (named_cases args p before e row named);
}
  where
    by_case : (row : List ℕ) → done row ≡ false → (is_named args p before row ≡ true) ⊎
        ((e.predicate ≡ p) × (row_under args e ≡ row)) →
        comes_before false (row_under args best.now) row ≡ false
    by_case row n (inl old) = h.least row old n
    by_case row n (inr (same, is)) = absurd (false≢true (sym n ∙ subst (λ r. done r ≡ true) is (passed same)))

-- the first effect that is not done
pub next_first : (args : List ℕ) (p : ℕ) (done : List ℕ → Bool) (before : List Lifted) (e : Lifted) →
    e.predicate ≡ p → done (row_under args e) ≡ false →
    IsNext args p done before None → IsNextNamed args p done (before ++ e ∷ []) e
next_first args p done before e same past h = record {
  held = Contains-push before e;
  of_predicate = same;
  past = past;
  least = λ row named n. by_case row n (named_cases args p before e row named);
}
  where
    by_case : (row : List ℕ) → done row ≡ false → (is_named args p before row ≡ true) ⊎
        ((e.predicate ≡ p) × (row_under args e ≡ row)) → comes_before false (row_under args e) row ≡ false
    by_case row n (inl old) = absurd (false≢true (sym n ∙ h row old))
    by_case row n (inr (_, is)) =
        subst (λ r. comes_before false (row_under args e) r ≡ false) is (below_itself (row_under args e))

-- a lesser effect
pub next_lesser : (args : List ℕ) (p : ℕ) (done : List ℕ → Bool) (before : List Lifted) (e known : Lifted) →
    e.predicate ≡ p → done (row_under args e) ≡ false →
    length (row_under args e) ≡ length (row_under args known) →
    comes_before false (row_under args known) (row_under args e) ≡ true →
    IsNextNamed args p done before known → IsNextNamed args p done (before ++ e ∷ []) e
next_lesser args p done before e known same past wide lower h = record {
  held = Contains-push before e;
  of_predicate = same;
  past = past;
  least = λ row named n. by_case row n (named_cases args p before e row named);
}
  where
    not_below : (row : List ℕ) → comes_before false (row_under args known) row ≡ false → (b : Bool) →
        comes_before false (row_under args e) row ≡ b → b ≡ false
    not_below row k false is = refl
    not_below row k true is =
        absurd (false≢true (sym k ∙ below_trans (row_under args e) (row_under args known) row wide is lower))

    by_case : (row : List ℕ) → done row ≡ false → (is_named args p before row ≡ true) ⊎
        ((e.predicate ≡ p) × (row_under args e ≡ row)) → comes_before false (row_under args e) row ≡ false
    by_case row n (inl old) =
        not_below row (h.least row old n) (comes_before false (row_under args e) row) refl
    by_case row n (inr (_, is)) =
        subst (λ r. comes_before false (row_under args e) r ≡ false) is (below_itself (row_under args e))

-- an effect that is not less
pub next_not_less : (args : List ℕ) (p : ℕ) (done : List ℕ → Bool) (before : List Lifted) (e known : Lifted) →
    comes_before false (row_under args known) (row_under args e) ≡ false →
    IsNextNamed args p done before known → IsNextNamed args p done (before ++ e ∷ []) known
next_not_less args p done before e known not_lower h = record {
  held = Contains-append_left before (e ∷ []) known h.held;
  of_predicate = h.of_predicate;
  past = h.past;
  least = λ row named n. by_case row n (named_cases args p before e row named);
}
  where
    by_case : (row : List ℕ) → done row ≡ false → (is_named args p before row ≡ true) ⊎
        ((e.predicate ≡ p) × (row_under args e ≡ row)) → comes_before false (row_under args known) row ≡ false
    by_case row n (inl old) = h.least row old n
    by_case row n (inr (_, is)) =
        subst (λ r. comes_before false (row_under args known) r ≡ false) is not_lower

-- without effects nothing is named
pub next_none : (args : List ℕ) (p : ℕ) (done : List ℕ → Bool) → IsNext args p done [] None
next_none args p done = λ row h. absurd (false≢true h)

pub row_wide : (args : List ℕ) (k : ℕ) (e : Lifted) → HasRow args k e → length (row_under args e) ≡ k
row_wide args k e h = length-map e.terms (value_of args) ∙ h.many

pub true_from_not : (b : Bool) → false ≡ not b → b ≡ true
true_from_not true h = refl
true_from_not false h = h

pub false_from_not : (b : Bool) → true ≡ not b → b ≡ false
false_from_not true h = h
false_from_not false h = refl

-- no effect so far names the row
pub none_yet : (a b : Bool) → a ≡ false → b ≡ false → (a || (b || false)) ≡ false
none_yet true b h k = h
none_yet false true h k = k
none_yet false false h k = refl

pub named_at : (args : List ℕ) (p : ℕ) (effects : List Lifted) (row : List ℕ) (i : ℕ) (e : Lifted) →
    i < length effects → e ≡ get_or effects i e →
    true ≡ is_same (atom_of p row) (atom_at args e) → true ≡ is_named args p effects row
named_at args p effects row i e within reads same =
    let l = length-map effects (atom_at args) in
    sym (list_any_at (is_same (atom_of p row)) (map (atom_at args) effects) i (atom_at args e) (omega arith)
    (ap (is_same (atom_of p row)) (get_or-map (atom_at args) effects i e (atom_at args e) within ∙
    ap (atom_at args) (sym reads)) ∙ sym same))

-- what an order of two numbers says
pub is_below : (x y : ℕ) (order : Ordering) → order ≡ nat_cmp x y → is_lt order ≡ ltb x y
is_below x y order is = grind (arith, nat_tests)

pub is_at_most : (x y : ℕ) (order : Ordering) → (x ≡ y → ⊥) → order ≡ nat_cmp x y → is_le order ≡ ltb x y
is_at_most x y order apart is = grind (arith, nat_tests)

-- the loop that compares the rows of two effects
pub up_to_differ : (or_equal : Bool) (args : List ℕ) (firsts seconds first second : List Term) (i x y : ℕ)
    (d e : Term) → first ≡ firsts → second ≡ seconds → length firsts ≡ length seconds →
    i < length second → x ≡ value_of args (get_or first i d) → y ≡ value_of args (get_or second i e) →
    (x ≡ y → ⊥) →
    comes_before or_equal (map (value_of args) second) (map (value_of args) first) ≡ comes_before or_equal
    (drop i (map (value_of args) second)) (drop i (map (value_of args) first)) →
    ltb x y ≡ comes_before or_equal (map (value_of args) seconds) (map (value_of args) firsts)
up_to_differ or_equal args firsts seconds first second i x y d e fs ss many within xe ye differ inv =
    let same : length first ≡ length second = ap length fs ∙ many ∙ sym (ap length ss) in
    let lf = length-map first (value_of args) in
    let ls = length-map second (value_of args) in
    let x_is : get_or (map (value_of args) first) i 0 ≡ x =
    get_or-map (value_of args) first i d 0 (omega arith) ∙ sym xe in
    let y_is : get_or (map (value_of args) second) i 0 ≡ y = get_or-map (value_of args) second i e 0 within ∙
    sym ye in
    sym (sym (ap (λ (l : List Term). comes_before or_equal (map (value_of args) l)
    (map (value_of args) firsts)) ss) ∙
    sym (ap (λ (l : List Term). comes_before or_equal (map (value_of args) second)
    (map (value_of args) l)) fs) ∙ inv ∙
    differ_here or_equal (map (value_of args) second) (map (value_of args) first) i (omega arith)
    (omega arith) (λ z. differ (sym x_is ∙ z ∙ y_is)) ∙
    ap (λ n. ltb n (get_or (map (value_of args) second) i 0)) x_is ∙ ap (ltb x) y_is)

pub up_to_alike : (or_equal : Bool) (args : List ℕ) (first second : List Term) (i x y : ℕ) (d e : Term) →
    length first ≡ length second →
    i < length second → x ≡ value_of args (get_or first i d) → y ≡ value_of args (get_or second i e) → x ≡ y →
    comes_before or_equal (map (value_of args) second) (map (value_of args) first) ≡ comes_before or_equal
    (drop i (map (value_of args) second)) (drop i (map (value_of args) first)) →
    comes_before or_equal (map (value_of args) second) (map (value_of args) first) ≡ comes_before or_equal
    (drop (i + 1) (map (value_of args) second)) (drop (i + 1) (map (value_of args) first))
up_to_alike or_equal args first second i x y d e same within xe ye alike inv =
    let lf = length-map first (value_of args) in
    let ls = length-map second (value_of args) in
    let x_is : get_or (map (value_of args) first) i 0 ≡ x =
    get_or-map (value_of args) first i d 0 (omega arith) ∙ sym xe in
    let y_is : get_or (map (value_of args) second) i 0 ≡ y = get_or-map (value_of args) second i e 0 within ∙
    sym ye in
    inv ∙ alike_more or_equal (map (value_of args) second) (map (value_of args) first) i (omega arith)
    (omega arith) (x_is ∙ alike ∙ sym y_is)

pub up_to_all : (or_equal : Bool) (args : List ℕ) (firsts seconds first second : List Term) (i : ℕ) →
    first ≡ firsts → second ≡ seconds → length second ≤ i →
    comes_before or_equal (map (value_of args) second) (map (value_of args) first) ≡ comes_before or_equal
    (drop i (map (value_of args) second)) (drop i (map (value_of args) first)) →
    or_equal ≡ comes_before or_equal (map (value_of args) seconds) (map (value_of args) firsts)
up_to_all or_equal args firsts seconds first second i fs ss past inv =
    let ls = length-map second (value_of args) in
    sym (sym (ap (λ (l : List Term). comes_before or_equal (map (value_of args) l)
    (map (value_of args) firsts)) ss) ∙
    sym (ap (λ (l : List Term). comes_before or_equal (map (value_of args) second)
    (map (value_of args) l)) fs) ∙ inv ∙
    alike_all or_equal (map (value_of args) second) (map (value_of args) first) i (omega arith))
