-- The words of parts: joined, cut and read back.
use Rattle.std.proofs.Common.{◌≡◌, ◌+◌, ◌*◌, ℕ, zero, suc, false, cond, List, [], ◌∷◌, ◌++◌, length, refl}
use Rattle.std.proofs.Common.{sym, ap, ◌∙◌, subst, inl, inr, All, arith, slice_get, Some, append_assoc}
use Rattle.std.proofs.Common.{length-append}
use Rattle.std.specs.List.{flat_map}
use Rattle.std.proofs.lemmas.Bool.{cases_Bool}
use Rattle.std.proofs.lemmas.List.{take_at, drop_at}
use Rattle.std.proofs.lemmas.List.Elements.{All-head, All-tail}
use Rattle.std.proofs.lemmas.Option.{same_Some}
use Rattle.pl_rows.specs.Rows.{rows_of}
use Rattle.pl_task.specs.declared.data.PredicateDef.{PredicateDef}
use Rattle.pl_state.specs.Layout.{part_of, parts_from}
use Rattle.pl_state.specs.StateOf.{first_rows, behind_first, rows_in}

pub parts_from-append : (rows : ℕ → List (List ℕ)) (p : ℕ) (xs ys : List PredicateDef) →
    parts_from rows p (xs ++ ys) ≡ parts_from rows p xs ++ parts_from rows (p + length xs) ys
parts_from-append rows p [] ys = let e : p + 0 ≡ p = omega arith in rw e refl
parts_from-append rows p (d ∷ xs) ys =
    let e : suc p + length xs ≡ p + suc (length xs) = omega arith in
    let rest : parts_from rows (suc p) (xs ++ ys) ≡ parts_from rows (suc p) xs ++ parts_from rows
    (p + suc (length xs)) ys =
    parts_from-append rows (suc p) xs ys ∙
    ap (λ q. parts_from rows (suc p) xs ++ parts_from rows q ys) e in
    ap (λ w. cond d.is_static [] (part_of (rows p)) ++ w) rest ∙
    sym (append_assoc (cond d.is_static [] (part_of (rows p))) (parts_from rows (suc p) xs)
    (parts_from rows (p + suc (length xs)) ys))

pub length-flat : (k : ℕ) (rows : List (List ℕ)) → All (λ row. length row ≡ k) rows →
    length (flat_map (λ row. row) rows) ≡ k * length rows
length-flat k [] wide = omega arith
length-flat k (row ∷ rows) wide =
    let first : length row ≡ k = All-head (λ r. length r ≡ k) row rows wide in
    let rest : length (flat_map (λ r. r) rows) ≡ k * length rows =
    length-flat k rows (All-tail (λ r. length r ≡ k) row rows wide) in
    let e : k * suc (length rows) ≡ k + k * length rows = grind arith in
    omega (arith, length-append row (flat_map (λ r. r) rows), e)

-- rows that lie one after another are read back
pub rows_of-flat : (k : ℕ) (rows : List (List ℕ)) (rest : List ℕ) → All (λ row. length row ≡ k) rows →
    rows_of k (length rows) (flat_map (λ row. row) rows ++ rest) ≡ rows
rows_of-flat k [] rest wide = refl
rows_of-flat k (row ∷ rows) rest wide =
    let first : length row ≡ k = All-head (λ r. length r ≡ k) row rows wide in
    let others = rows_of-flat k rows rest (All-tail (λ r. length r ≡ k) row rows wide) in
    rw (
      append_assoc row (flat_map (λ r. r) rows) rest,
      take_at row (flat_map (λ r. r) rows ++ rest) k first,
      drop_at row (flat_map (λ r. r) rows ++ rest) k first,
      others,
    ) refl

pub first_rows-part : (k : ℕ) (rows : List (List ℕ)) (rest : List ℕ) → All (λ row. length row ≡ k) rows →
    first_rows k (part_of rows ++ rest) ≡ rows
first_rows-part k rows rest wide = rows_of-flat k rows rest wide

pub behind_first-part : (k : ℕ) (rows : List (List ℕ)) (rest : List ℕ) → All (λ row. length row ≡ k) rows →
    behind_first k (part_of rows ++ rest) ≡ rest
behind_first-part k rows rest wide =
    drop_at (part_of rows) rest (1 + k * length rows) (ap suc (length-flat k rows wide) ∙ (omega arith))

-- each fluent predicate's rows have its width
abbrev pub AreWide : (ℕ → List (List ℕ)) → ℕ → List PredicateDef → Type 0
AreWide rows q ds = (p : ℕ) (d : PredicateDef) → slice_get ds p ≡ Some d → d.is_static ≡ false →
    All (λ row. length row ≡ d.arity) (rows (q + p))

pub AreWide-tail : (rows : ℕ → List (List ℕ)) (q : ℕ) (e : PredicateDef) (ds : List PredicateDef) →
    AreWide rows q (e ∷ ds) → AreWide rows (suc q) ds
AreWide-tail rows q e ds wide p d found fluent =
    let n : q + suc p ≡ suc q + p = omega arith in
    subst (λ m. All (λ row. length row ≡ d.arity) (rows m)) n (wide (suc p) d found fluent)

pub AreWide-head : (rows : ℕ → List (List ℕ)) (q : ℕ) (e : PredicateDef) (ds : List PredicateDef) →
    AreWide rows q (e ∷ ds) → e.is_static ≡ false → All (λ row. length row ≡ e.arity) (rows q)
AreWide-head rows q e ds wide fluent =
    let n : q + 0 ≡ q = omega arith in
    subst (λ m. All (λ row. length row ≡ e.arity) (rows m)) n (wide 0 e refl fluent)

-- the rows of a fluent predicate are read back from the words of all parts
pub rows_in-parts : (rows : ℕ → List (List ℕ)) (q : ℕ) (ds : List PredicateDef) (rest : List ℕ) (p : ℕ)
    (d : PredicateDef) → AreWide rows q ds →
    slice_get ds p ≡ Some d → d.is_static ≡ false → rows_in ds (parts_from rows q ds ++ rest) p ≡ rows (q + p)
rows_in-parts rows q [] rest p d wide found fluent = cc
rows_in-parts rows q (e ∷ ds) rest zero d wide found fluent =
    let same : e ≡ d = same_Some e d found in
    let f : e.is_static ≡ false = ap (λ (x : PredicateDef). x.is_static) same ∙ fluent in
    let n : q + 0 ≡ q = omega arith in
    rw (f, n, append_assoc (part_of (rows q)) (parts_from rows (suc q) ds) rest)
    (first_rows-part e.arity (rows q) (parts_from rows (suc q) ds ++ rest) (AreWide-head rows q e ds wide f))
rows_in-parts rows q (e ∷ ds) rest (suc p) d wide found fluent =
    let n : q + suc p ≡ suc q + p = omega arith in
    let there : rows_in ds (parts_from rows (suc q) ds ++ rest) p ≡ rows (suc q + p) =
    rows_in-parts rows (suc q) ds rest p d (AreWide-tail rows q e ds wide) found fluent in
    elim (cases_Bool e.is_static) [
      | inl t ↦ rw (t, n) there
      | inr f ↦ rw (
        f,
        n,
        append_assoc (part_of (rows q)) (parts_from rows (suc q) ds) rest,
        behind_first-part e.arity (rows q) (parts_from rows (suc q) ds ++ rest)
            (AreWide-head rows q e ds wide f),
      ) there
    ]

-- where the rows of the fluent predicates agree, so do the words
pub parts_from-agree : (rows others : ℕ → List (List ℕ)) (q : ℕ) (ds : List PredicateDef) →
    ((p : ℕ) (d : PredicateDef) → slice_get ds p ≡ Some d → d.is_static ≡ false →
    rows (q + p) ≡ others (q + p)) → parts_from rows q ds ≡ parts_from others q ds
parts_from-agree rows others q [] h = refl
parts_from-agree rows others q (e ∷ ds) h =
    let rest : parts_from rows (suc q) ds ≡ parts_from others (suc q) ds =
    parts_from-agree rows others (suc q) ds
    (λ p d found fluent. let n : q + suc p ≡ suc q + p = omega arith in
    subst (λ m. rows m ≡ others m) n (h (suc p) d found fluent)) in
    elim (cases_Bool e.is_static) [
      | inl t ↦ rw t rest
      | inr f ↦ (
          let n : q + 0 ≡ q = omega arith in
          let first : rows q ≡ others q = subst (λ m. rows m ≡ others m) n (h 0 e refl f) in
          rw (f, first, rest) refl
          )
    ]
