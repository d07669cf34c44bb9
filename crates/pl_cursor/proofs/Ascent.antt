-- The answers ascend.
use Rattle.std.proofs.Common.{◌≡◌, ◌+◌, ℕ, zero, suc, List, [], ◌∷◌, ◌++◌, length, get_or, take, drop}
use Rattle.std.proofs.Common.{nat_cmp, All, Contains, refl, sym, ap, ◌∙◌, arith}
use Rattle.std.specs.declared.cmp.Ordering.TheVariants.{Less, Equal}
use Rattle.std.specs.List.{flat_map}
use Rattle.std.specs.List.Sorted.{IsStrictlySortedBy}
use Rattle.std.proofs.lemmas.Bool.Decides.{nat_tests}
use Rattle.std.proofs.lemmas.Cmp.{tied_itself, nat_cmp_total}
use Rattle.std.proofs.lemmas.List.Elements.{All-contains, All-append, Contains-get_or, recursion_from_All}
use Rattle.std.proofs.lemmas.List.Kept.{IsStrictlySortedBy-filter}
use Rattle.std.proofs.lemmas.Map.Keys.{sorted_tail}
use Rattle.std.proofs.lemmas.Map.Views.{All-after_first}
use Rattle.pl_rows.specs.Rows.{row_cmp, begins_with, IsAscending}
use Rattle.pl_rows.proofs.Canonical.{Contains-cons_first, Contains-cons_rest, ascending-none}
use Rattle.pl_join.proofs.Members.{Contains-from_flat_map}
use Rattle.pl_cursor.specs.Answers.{Stage, AreStages, answers, matching, grown, key_of, IsAnswer}
use Rattle.pl_cursor.proofs.Chains.{members}
use Rattle.pl_cursor.proofs.Fronts.{matching-split, length-grown_matching, chain-front}

-- ---- the lexicographic order

-- what two rows begin with alike doesn't count
pub same_front : (front xs ys : List ℕ) → row_cmp (front ++ xs) (front ++ ys) ≡ row_cmp xs ys
same_front [] xs ys = refl
same_front (x ∷ front) xs ys =
    let tied : nat_cmp x x ≡ Equal = tied_itself nat_cmp_total x in rw tied (same_front front xs ys)

-- fronts of one length that differ decide
pub front_decides : (n : ℕ) (xs ys : List ℕ) → row_cmp (take n xs) (take n ys) ≡ Less → row_cmp xs ys ≡ Less
front_decides zero xs ys h = cc
front_decides (suc n) [] [] h = h
front_decides (suc n) [] (y ∷ ys) h = refl
front_decides (suc n) (x ∷ xs) [] h = h
front_decides (suc n) (x ∷ xs) (y ∷ ys) h = let rest = front_decides n xs ys in grind (arith, nat_tests, rest)

-- ---- lists that ascend

-- one list behind another
pub ascending-append : (xs ys : List (List ℕ)) → IsAscending xs → IsAscending ys
    → ((x y : List ℕ) → Contains xs x → Contains ys y → row_cmp x y ≡ Less) → IsAscending (xs ++ ys)
unfolding IsStrictlySortedBy
ascending-append [] ys s t less = t
ascending-append (x ∷ xs) ys s t less =
    let below : All (λ y. row_cmp x y ≡ Less) ys = λ k d l. less x (get_or ys k d) (Contains-cons_first x xs)
    (Contains-get_or ys k d l) in
    let above : All (λ y. row_cmp x y ≡ Less) (xs ++ ys) = All-append (λ y. row_cmp x y ≡ Less) xs ys
    (All-after_first row_cmp x xs s) below in (
      recursion_from_All (λ y. row_cmp x y ≡ Less) (xs ++ ys) above,
      ascending-append xs ys (sorted_tail row_cmp x xs s) t (λ a b h. less a b (Contains-cons_rest x xs a h)),
    )

pub ascending-one : (row : List ℕ) → IsAscending (row ∷ [])
unfolding IsStrictlySortedBy
ascending-one row = (tt, tt)

-- ascending lists, one for each of some rows that ascend, each below those of the later rows
pub ascending-flat_map : (F : List ℕ → List (List ℕ)) (rows : List (List ℕ)) → IsAscending rows →
    ((row : List ℕ) → Contains rows row → IsAscending (F row)) →
    ((row other x y : List ℕ) → Contains rows row → Contains rows other → row_cmp row other ≡ Less
    → Contains (F row) x → Contains (F other) y → row_cmp x y ≡ Less) →
    IsAscending (flat_map F rows)
ascending-flat_map F [] s each less = ascending-none
ascending-flat_map F (row ∷ rows) s each less =
    ascending-append (F row) (flat_map F rows) (each row (Contains-cons_first row rows))
    (ascending-flat_map F rows (sorted_tail row_cmp row rows s)
    (λ r h. each r (Contains-cons_rest row rows r h))
    (λ r o x y h k. less r o x y (Contains-cons_rest row rows r h) (Contains-cons_rest row rows o k)))
    (λ x y h k. across x y h (Contains-from_flat_map F rows y k))
  where
    across : (x y : List ℕ) → Contains (F row) x → (other : List ℕ) × Contains rows other
        × Contains (F other) y → row_cmp x y ≡ Less
    across x y h (other, held, k) =
        less row other x y (Contains-cons_first row rows) (Contains-cons_rest row rows other held)
        (All-contains (λ q. row_cmp row q ≡ Less) rows other (All-after_first row_cmp row rows s) held) h k

-- ---- the answers

-- rows that go on with the same values are in the order of what they bring
pub brings-less : (stage : Stage) (values row other : List ℕ) → Contains (matching stage values) row
    → Contains (matching stage values) other → row_cmp row other ≡ Less
    → row_cmp (grown stage values row) (grown stage values other) ≡ Less
brings-less stage values row other h k less =
    let key : List ℕ = key_of stage.keys values in
    let x : List ℕ = drop (length stage.keys) row in
    let y : List ℕ = drop (length stage.keys) other in
    let e : key ++ x ≡ row = matching-split stage values row h in
    let f : key ++ y ≡ other = matching-split stage values other k in
    same_front values x y ∙ sym (same_front key x y) ∙ (λ i. row_cmp (e i) (f i)) ∙ less

-- what an answer begins with decides before what follows
pub grown-less : (stages : List Stage) (a b x y : List ℕ) → length a ≡ length b → row_cmp a b ≡ Less
    → IsAnswer stages a x → IsAnswer stages b y → row_cmp x y ≡ Less
grown-less stages a b x y long less h k =
    let e : take (length a) x ≡ a = chain-front stages a x h in
    let f : take (length a) y ≡ b = ap (λ n. take n y) long ∙ chain-front stages b y k in
    front_decides (length a) x y ((λ i. row_cmp (e i) (f i)) ∙ less)

pub ascending : (stages : List Stage) (before width : ℕ) (values : List ℕ) → AreStages stages before width
    → length values ≡ before → IsAscending (answers stages values)
ascending [] before width values are long = ascending-one values
ascending (stage ∷ stages) before width values (brought, is, follow) long =
    ascending-flat_map (λ row. answers stages (grown stage values row)) (matching stage values)
    (IsStrictlySortedBy-filter row_cmp (begins_with (key_of stage.keys values)) stage.rows is.rows.ascending)
    (λ row h. ascending stages (before + brought) width (grown stage values row) follow
    (length-grown_matching stage before brought values row is long h))
    (λ row other x y h k less m n.
    grown-less stages (grown stage values row) (grown stage values other) x y
    (length-grown_matching stage before brought values row is long h
    ∙ sym (length-grown_matching stage before brought values other is long k))
    (brings-less stage values row other h k less)
    ((members stages (grown stage values row) x).0 m) ((members stages (grown stage values other) y).0 n))
