-- The order of rows: what comes before what, and lists that ascend.
use Rattle.std.proofs.Common.{◌≡◌, ◌⊎◌, ◌+◌, ◌<◌, ℕ, Bool, true, false, List, [], ◌∷◌, ◌++◌, length, get_or}
use Rattle.std.proofs.Common.{take, drop, refl, sym, ap, ◌∙◌, subst, inl, inr, All, Contains, arith}
use Rattle.std.specs.Ordering.{is_lt, is_le, is_eq, ordering_reverse}
use Rattle.std.specs.declared.cmp.Ordering.{Ordering}
use Rattle.std.specs.declared.cmp.Ordering.TheVariants.{Less, Equal, Greater}
use Rattle.std.specs.List.Sorted.{IsStrictlySortedBy}
use Rattle.std.specs.Cmp.Lexicographic.{texts_ties}
use Rattle.std.proofs.lemmas.Bool.{false≢true, true≢false}
use Rattle.std.proofs.lemmas.Cmp.{tied_itself, nat_list_cmp_total}
use Rattle.std.proofs.lemmas.List.{take_all, get_or-take, get_or-drop, length-drop, length-take}
use Rattle.std.proofs.lemmas.List.Elements.{All-append, Contains-get_or, recursion_from_All}
use Rattle.std.proofs.lemmas.Map.Keys.{sorted_tail, Less-from_sorted, sorted_from_all_adjacent}
use Rattle.std.proofs.lemmas.Map.Views.{All-after_first}
use Rattle.std.proofs.lemmas.Slice.Eq.{bytes_eq-Decides}
use Rattle.pl_rows.specs.Rows.{row_cmp, IsAscending}
use Rattle.pl_rows.specs.Layout.{comes_before}
use Rattle.pl_rows.proofs.Canonical.{Contains-cons_first, Contains-cons_rest}
use Rattle.pl_rows.proofs.Canonical.{ascending-none}

less_from : (o : Ordering) → is_lt o ≡ true → o ≡ Less
less_from Less h = refl
less_from Equal h = cc
less_from Greater h = cc

not_less : (o : Ordering) → is_lt o ≡ false → (o ≡ Less) → ⊥
not_less o h e = false≢true (sym h ∙ ap is_lt e)

-- rows that tie are one row
tied_rows : (x y : List ℕ) → row_cmp x y ≡ Equal → x ≡ y
tied_rows x y h = (bytes_eq-Decides x y).0 (texts_ties x y ∙ ap is_eq h)

-- of two rows of one width, the first is below the second where it comes before it
pub below_from : (x e : List ℕ) → length x ≡ length e → comes_before false e x ≡ true → row_cmp x e ≡ Less
below_from x e w h =
    less_from (row_cmp x e) (ap (λ r. is_lt (row_cmp r e)) (sym (take_all (length e) x (omega arith))) ∙ h)

pub below_to : (x e : List ℕ) → length x ≡ length e → row_cmp x e ≡ Less → comes_before false e x ≡ true
below_to x e w h = ap (λ r. is_lt (row_cmp r e)) (take_all (length e) x (omega arith)) ∙ ap is_lt h

pub below_itself : (e : List ℕ) → comes_before false e e ≡ false
below_itself e = ap (λ r. is_lt (row_cmp r e)) (take_all (length e) e (omega arith)) ∙
    ap is_lt (tied_itself nat_list_cmp_total e)

pub up_to_itself : (e : List ℕ) → comes_before true e e ≡ true
up_to_itself e = ap (λ r. is_le (row_cmp r e)) (take_all (length e) e (omega arith)) ∙
    ap is_le (tied_itself nat_list_cmp_total e)

le_from_lt : (o : Ordering) → is_lt o ≡ true → is_le o ≡ true
le_from_lt Less h = refl
le_from_lt Equal h = refl
le_from_lt Greater h = cc

pub up_to_from_below : (e x : List ℕ) → comes_before false e x ≡ true → comes_before true e x ≡ true
up_to_from_below e x h = le_from_lt (row_cmp (take (length e) x) e) h

-- a row that comes up to another is below it or is it
pub up_to_cases : (x e : List ℕ) → length x ≡ length e → comes_before true e x ≡ true →
    (comes_before false e x ≡ true) ⊎ (x ≡ e)
up_to_cases x e w h = by_order (row_cmp x e) refl
  where
    le : is_le (row_cmp x e) ≡ true
    le = ap (λ r. is_le (row_cmp r e)) (sym (take_all (length e) x (omega arith))) ∙ h

    by_order : (o : Ordering) → row_cmp x e ≡ o → (comes_before false e x ≡ true) ⊎ (x ≡ e)
    by_order Less is = inl (below_to x e w is)
    by_order Equal is = inr (tied_rows x e is)
    by_order Greater is = absurd (false≢true (sym (ap is_le is) ∙ le))

-- what comes before the lesser comes before the greater
pub below_trans : (a b x : List ℕ) → length a ≡ length b → comes_before false a x ≡ true →
    comes_before false b a ≡ true → comes_before false b x ≡ true
below_trans a b x w h k =
    let first : row_cmp (take (length a) x) a ≡ Less = less_from (row_cmp (take (length a) x) a) h in
    let second : row_cmp a b ≡ Less = below_from a b w k in
    let both : row_cmp (take (length a) x) b ≡ Less =
    nat_list_cmp_total.trans (take (length a) x) a b first second in
    ap (λ n. is_lt (row_cmp (take n x) b)) (sym w) ∙ ap is_lt both

-- rows that come up to a row are below those that don't
greater_from : (x e : List ℕ) → length x ≡ length e → comes_before true e x ≡ false → row_cmp e x ≡ Less
greater_from x e w h = nat_list_cmp_total.antisymm e x ∙ by_order (row_cmp x e) refl
  where
    le : is_le (row_cmp x e) ≡ false
    le = ap (λ r. is_le (row_cmp r e)) (sym (take_all (length e) x (omega arith))) ∙ h

    by_order : (o : Ordering) → row_cmp x e ≡ o → ordering_reverse (row_cmp x e) ≡ Less
    by_order Less is = absurd (true≢false (sym (ap is_le is) ∙ le))
    by_order Equal is = absurd (true≢false (sym (ap is_le is) ∙ le))
    by_order Greater is = ap ordering_reverse is

-- what comes up to the lesser comes before the greater
pub up_to_trans : (l e x : List ℕ) → length l ≡ length e → comes_before true l x ≡ true →
    comes_before true l e ≡ false → comes_before false e x ≡ true
up_to_trans l e x w h n =
    let above : row_cmp l e ≡ Less = greater_from e l (sym w) n in
    ap (λ m. is_lt (row_cmp (take m x) e)) (sym w) ∙
    ap is_lt (by_order (row_cmp (take (length l) x) l) refl above)
  where
    by_order : (o : Ordering) → row_cmp (take (length l) x) l ≡ o → row_cmp l e ≡ Less →
        row_cmp (take (length l) x) e ≡ Less
    by_order Less is above = nat_list_cmp_total.trans (take (length l) x) l e is above
    by_order Equal is above = subst (λ r. row_cmp r e ≡ Less) (sym (tied_rows (take (length l) x) l is)) above
    by_order Greater is above = absurd (false≢true (sym (ap is_le is) ∙ h))

-- the rows with the property are all below those without it
abbrev pub IsLower : ℕ → (List ℕ → Bool) → Type 0
IsLower k B = (x y : List ℕ) → length x ≡ k → length y ≡ k → B x ≡ true → B y ≡ false → row_cmp x y ≡ Less

pub lower_none : (k : ℕ) → IsLower k (λ _. false)
lower_none k x y wx wy h n = absurd (false≢true h)

pub lower_up_to : (k : ℕ) (e : List ℕ) → length e ≡ k → IsLower k (comes_before true e)
lower_up_to k e w x y wx wy h n = by_case (up_to_cases x e (wx ∙ sym w) h)
  where
    above : row_cmp e y ≡ Less
    above = greater_from y e (wy ∙ sym w) n

    by_case : (comes_before false e x ≡ true) ⊎ (x ≡ e) → row_cmp x y ≡ Less
    by_case (inl below) = nat_list_cmp_total.trans x e y (below_from x e (wx ∙ sym w) below) above
    by_case (inr same) = subst (λ r. row_cmp r y ≡ Less) (sym same) above

pub lower_below : (k : ℕ) (e : List ℕ) → length e ≡ k → IsLower k (comes_before false e)
lower_below k e w x y wx wy h n = by_order (row_cmp y e) refl
  where
    first : row_cmp x e ≡ Less
    first = below_from x e (wx ∙ sym w) h

    by_order : (o : Ordering) → row_cmp y e ≡ o → row_cmp x y ≡ Less
    by_order Less is = absurd (false≢true (sym n ∙ below_to y e (wy ∙ sym w) is))
    by_order Equal is = subst (λ r. row_cmp x r ≡ Less) (sym (tied_rows y e is)) first
    by_order Greater is =
        nat_list_cmp_total.trans x e y first (nat_list_cmp_total.antisymm e y ∙ ap ordering_reverse is)

-- lists that ascend
sorted_cons : (x : List ℕ) (xs : List (List ℕ)) → All (λ y. row_cmp x y ≡ Less) xs → IsAscending xs →
    IsAscending (x ∷ xs)
unfolding IsStrictlySortedBy
sorted_cons x xs all rest = (recursion_from_All (λ y. row_cmp x y ≡ Less) xs all, rest)

pub ascending_one : (x : List ℕ) → IsAscending (x ∷ [])
ascending_one x = sorted_cons x [] (λ i d l. absurd (omega arith)) ascending-none

pub ascending_append : (xs ys : List (List ℕ)) → IsAscending xs → IsAscending ys →
    ((x y : List ℕ) → Contains xs x → Contains ys y → row_cmp x y ≡ Less) → IsAscending (xs ++ ys)
ascending_append [] ys s t h = t
ascending_append (x ∷ xs) ys s t h =
    let all : All (λ y. row_cmp x y ≡ Less) (xs ++ ys) =
    All-append (λ y. row_cmp x y ≡ Less) xs ys (All-after_first row_cmp x xs s)
    (λ i d l. h x (get_or ys i d) (Contains-cons_first x xs) (Contains-get_or ys i d l)) in
    sorted_cons x (xs ++ ys) all
    (ascending_append xs ys (sorted_tail row_cmp x xs s) t
    (λ z y a b. h z y (Contains-cons_rest x xs z a) b))

pub ascending_between : (i m : ℕ) (rows : List (List ℕ)) → IsAscending rows →
    IsAscending (take m (drop i rows))
ascending_between i m rows s = sorted_from_all_adjacent nat_list_cmp_total (take m (drop i rows)) [] adjacent
  where
    adjacent : (k : ℕ) → k + 1 < length (take m (drop i rows)) →
        row_cmp (get_or (take m (drop i rows)) k []) (get_or (take m (drop i rows)) (k + 1) []) ≡ Less
    adjacent k l =
        let size = length-take m (drop i rows) in
        let left = length-drop i rows in
        let n : k < m = omega arith in
        let n' : k + 1 < m = omega arith in
        let more : i + k < i + (k + 1) = omega arith in
        let inside : i + (k + 1) < length rows = omega arith in
        rw (
          get_or-take m (drop i rows) k [] n,
          get_or-take m (drop i rows) (k + 1) [] n',
          get_or-drop i rows k [],
          get_or-drop i rows (k + 1) [],
        )
        (Less-from_sorted row_cmp rows (i + k) (i + (k + 1)) [] s more inside)
