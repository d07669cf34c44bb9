-- Where the rows of a flat list lie.
use Rattle.std.proofs.Common.{◌≡◌, ◌+◌, ◌-◌, ◌*◌, ◌<◌, ◌≤◌, ℕ, zero, suc, List, [], ◌∷◌, ◌++◌, length, get_or}
use Rattle.std.proofs.Common.{take, drop, take-take, refl, sym, ap, ◌∙◌, All, arith, slice_get, Some}
use Rattle.std.proofs.lemmas.List.{drop-drop, length-take-le, length-drop, drop-take, take_all}
use Rattle.std.proofs.lemmas.List.{take-append-le, drop-append-le, nil_from_length, take-append-drop}
use Rattle.std.proofs.lemmas.List.Elements.{All-nil, All-cons, All-head, All-tail, All-append, All-take}
use Rattle.std.proofs.lemmas.List.Elements.{All-drop, All-contains, Contains-get_or}
use Rattle.std.proofs.lemmas.Option.{slice_get-get_or}
use Rattle.pl_rows.specs.Rows.{rows_of, SameRows}

pub length-rows_of : (k n : ℕ) (flat : List ℕ) → length (rows_of k n flat) ≡ n
length-rows_of k zero flat = refl
length-rows_of k (suc n) flat = ap suc (length-rows_of k n (drop k flat))

pub get_or-rows_of : (k n i : ℕ) (flat d : List ℕ) → i < n →
    get_or (rows_of k n flat) i d ≡ take k (drop (i * k) flat)
get_or-rows_of k zero i flat d h = absurd (omega arith)
get_or-rows_of k (suc n) zero flat d h = let e : 0 * k ≡ 0 = omega arith in rw e refl
get_or-rows_of k (suc n) (suc i) flat d h =
    let e : suc i * k ≡ k + i * k = grind arith in
    get_or-rows_of k n i (drop k flat) d (omega arith) ∙
    ap (take k) (drop-drop (i * k) k flat ∙ ap (λ m. drop m flat) (sym e))

-- the row that a slice of the flat list is
pub slice_get-rows_of : (k n i m : ℕ) (flat : List ℕ) → i < n → m ≡ k →
    slice_get (rows_of k n flat) i ≡ Some (take m (drop (i * k) flat))
slice_get-rows_of k n i m flat h e =
    let l = length-rows_of k n flat in
    rw e (slice_get-get_or (rows_of k n flat) i [] (omega arith) ∙ ap Some (get_or-rows_of k n i flat [] h))

pub width-rows_of : (k n : ℕ) (flat : List ℕ) → length flat ≡ k * n →
    All (λ row. length row ≡ k) (rows_of k n flat)
width-rows_of k zero flat h = All-nil (λ row. length row ≡ k)
width-rows_of k (suc n) flat h =
    let e : k * suc n ≡ k + k * n = grind arith in
    All-cons (λ row. length row ≡ k) _ _ (length-take-le k flat (omega arith))
    (width-rows_of k n (drop k flat) (omega (arith, length-drop k flat)))

pub values-rows_of : (P : ℕ → Type 0) (k n : ℕ) (flat : List ℕ) → All P flat →
    All (λ row. All P row) (rows_of k n flat)
values-rows_of P k zero flat h = All-nil (λ row. All P row)
values-rows_of P k (suc n) flat h =
    All-cons (λ row. All P row) _ _ (All-take P k flat h)
    (values-rows_of P k n (drop k flat) (All-drop P k flat h))

-- one row more at the end
pub rows_of-push : (k n : ℕ) (flat row : List ℕ) → length flat ≡ k * n → length row ≡ k →
    rows_of k (n + 1) (flat ++ row) ≡ rows_of k n flat ++ row ∷ []
rows_of-push k zero flat row h w =
    let e : flat ≡ [] = nil_from_length flat (omega arith) in
    rw e (ap (λ r. r ∷ []) (take_all k row (omega arith)))
rows_of-push k (suc n) flat row h w =
    let e : k * suc n ≡ k + k * n = grind arith in
    let within : k ≤ length flat = omega arith in
    let rest : rows_of k (n + 1) (drop k flat ++ row) ≡ rows_of k n (drop k flat) ++ row ∷ [] =
    rows_of-push k n (drop k flat) row (omega (arith, length-drop k flat)) w in
    let count : suc n + 1 ≡ suc (n + 1) = omega arith in
    rw (count, take-append-le k flat row within, drop-append-le k flat row within, rest) refl

-- what holds of each value of each row holds of each value of the flat list
pub values-flat : (P : ℕ → Type 0) (k n : ℕ) (flat : List ℕ) → length flat ≡ k * n →
    All (λ row. All P row) (rows_of k n flat) → All P flat
values-flat P k zero flat h all = rw (nil_from_length flat (omega arith)) (All-nil P)
values-flat P k (suc n) flat h all =
    let e : k * suc n ≡ k + k * n = grind arith in
    let first : All P (take k flat) = All-head (λ row. All P row) (take k flat)
    (rows_of k n (drop k flat)) all in
    let rest : All P (drop k flat) = values-flat P k n (drop k flat) (omega (arith, length-drop k flat))
    (All-tail (λ row. All P row) (take k flat) (rows_of k n (drop k flat)) all) in
    rw (take-append-drop k flat) at (All-append P (take k flat) (drop k flat) first rest)

-- the same set of rows has the same values
pub values-same : (P : ℕ → Type 0) (k m n : ℕ) (new flat : List ℕ) → length new ≡ k * m → All P flat →
    SameRows (rows_of k m new) (rows_of k n flat) → All P new
values-same P k m n new flat h all same =
    values-flat P k m new h (λ i d l. All-contains (λ row. All P row) (rows_of k n flat)
    (get_or (rows_of k m new) i d)
    (values-rows_of P k n flat all) ((same (get_or (rows_of k m new) i d)).0
    (Contains-get_or (rows_of k m new) i d l)))

-- the first rows are those of the first values
pub take-rows_of : (k m n : ℕ) (flat : List ℕ) → m ≤ n → length flat ≡ k * n →
    rows_of k m (take (k * m) flat) ≡ take m (rows_of k n flat)
take-rows_of k zero n flat l h = refl
take-rows_of k (suc m) zero flat l h = absurd (omega arith)
take-rows_of k (suc m) (suc n) flat l h =
    let part : k * suc m ≡ k + k * m = grind arith in
    let whole : k * suc n ≡ k + k * n = grind arith in
    let rest : rows_of k m (take (k * m) (drop k flat)) ≡ take m (rows_of k n (drop k flat)) =
    take-rows_of k m n (drop k flat) (omega arith) (omega (arith, length-drop k flat)) in
    let first : take k (take (k + k * m) flat) ≡ take k flat = take-take k (k + k * m) flat (omega arith) in
    let behind : drop k (take (k + k * m) flat) ≡ take (k * m) (drop k flat) = drop-take k (k * m) flat in
    rw (part, first, behind, rest) refl

-- the rows behind the first ones
pub drop-rows_of : (k m n : ℕ) (flat : List ℕ) → m ≤ n →
    rows_of k (n - m) (drop (k * m) flat) ≡ drop m (rows_of k n flat)
drop-rows_of k zero n flat l = let e : k * 0 ≡ 0 = omega arith in let f : n - 0 ≡ n = omega arith in
    rw (e, f) refl
drop-rows_of k (suc m) zero flat l = absurd (omega arith)
drop-rows_of k (suc m) (suc n) flat l =
    let e : k * suc m ≡ k + k * m = grind arith in
    let f : suc n - suc m ≡ n - m = omega arith in
    let rest : rows_of k (n - m) (drop (k * m) (drop k flat)) ≡ drop m (rows_of k n (drop k flat)) =
    drop-rows_of k m n (drop k flat) (omega arith) in
    rw (f, e) (ap (rows_of k (n - m)) (sym (drop-drop (k * m) k flat)) ∙ rest)

-- the rows from one place up to another
pub range-rows_of : (k from to n : ℕ) (flat : List ℕ) → from ≤ to → to ≤ n → length flat ≡ k * n
    → rows_of k (to - from) (take (k * to - k * from) (drop (k * from) flat)) ≡ take (to - from)
    (drop from (rows_of k n flat))
range-rows_of k from to n flat l m h =
    let e : k * to - k * from ≡ k * (to - from) = grind arith in
    let f : k * (n - from) ≡ k * n - k * from = grind arith in
    let long : length (drop (k * from) flat) ≡ k * (n - from) = omega (arith, length-drop (k * from) flat) in
    rw e (take-rows_of k (to - from) (n - from) (drop (k * from) flat) (omega arith) long ∙
    ap (take (to - from)) (drop-rows_of k from n flat (omega arith)))

-- rows behind rows
pub rows_of-append : (k m n : ℕ) (xs ys : List ℕ) → length xs ≡ k * m →
    rows_of k (m + n) (xs ++ ys) ≡ rows_of k m xs ++ rows_of k n ys
rows_of-append k zero n xs ys h = let e : xs ≡ [] = nil_from_length xs (omega arith) in
    let f : 0 + n ≡ n = omega arith in rw (f, e) refl
rows_of-append k (suc m) n xs ys h =
    let e : k * suc m ≡ k + k * m = grind arith in
    let within : k ≤ length xs = omega arith in
    let rest : rows_of k (m + n) (drop k xs ++ ys) ≡ rows_of k m (drop k xs) ++ rows_of k n ys =
    rows_of-append k m n (drop k xs) ys (omega (arith, length-drop k xs)) in
    let count : suc m + n ≡ suc (m + n) = omega arith in
    rw (count, take-append-le k xs ys within, drop-append-le k xs ys within, rest) refl
