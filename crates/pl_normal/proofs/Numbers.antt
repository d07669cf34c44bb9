-- Lists that get numbers, one after another.
use Rattle.std.proofs.Common.{◌≡◌, ℕ, ◌+◌, ◌<◌, ◌⊎◌, inl, inr, true, false, cond, List, [], ◌∷◌, ◌++◌, length}
use Rattle.std.proofs.Common.{get_or, Some, sym, ◌∙◌, ap, subst, arith, All, length-append}
use Rattle.std.specs.Prelude.{slice_index}
use Rattle.std.specs.Borrow.{Bor}
use Rattle.std.specs.BTreeMap.{BTreeMap, get, is_at}
use Rattle.std.proofs.Math.Seq.{get_or-append_seam}
use Rattle.std.proofs.Math.ListN.{get_or-append}
use Rattle.std.proofs.lemmas.Bool.{cases_Bool, cond-true, cond-false}
use Rattle.std.proofs.lemmas.List.{get_or-map, length-map}
use Rattle.std.proofs.lemmas.List.Elements.{All-push}
use Rattle.std.proofs.lemmas.Map.Lookups.{exact_bytes}
use Rattle.std.proofs.lemmas.Map.Views.{tells_apart}
use Rattle.pl_normal.specs.Kinds.{lists_of, list_at, list_cmp, IsNumberOf, IsNumbering, AreKnown, GoesOn}
use Rattle.std.proofs.lemmas.Option.{same_Some}

-- a borrowed list at its place
pub list_here : (lists : List (Bor (List ℕ))) (place : ℕ) (list d : Bor (List ℕ)) → place < length lists
    → list ≡ get_or lists place d → list_at (lists_of lists) place ≡ list.now
list_here lists place list d h at = get_or-map (λ (x : Bor (List ℕ)). x.now) lists place d [] h
    ∙ ap (λ (x : Bor (List ℕ)). x.now) (sym at)

-- one more element
pub last_here : (xs ys : List ℕ) (y n : ℕ) → ys ≡ xs ++ y ∷ [] → n ≡ length xs → slice_index ys n ≡ y
last_here xs ys y n e h = (λ i. get_or (e i) (h i) 0) ∙ get_or-append_seam xs y [] 0

pub front_here : (xs ys : List ℕ) (y k : ℕ) → ys ≡ xs ++ y ∷ [] → k < length xs
    → slice_index ys k ≡ slice_index xs k
front_here xs ys y k e h = ap (λ zs. get_or zs k 0) e ∙ get_or-append xs (y ∷ []) 0 k h

pub longer_by_one : (xs ys : List ℕ) (y : ℕ) → ys ≡ xs ++ y ∷ [] → length ys ≡ length xs + 1
longer_by_one xs ys y e = ap length e ∙ length-append xs (y ∷ [])

old_or_new : (j i : ℕ) → j < i + 1 → (j < i) ⊎ (j ≡ i)
old_or_new j i low = grind arith

-- ---- a number that is known

pub number_again : (lists : List (Bor (List ℕ))) (known : BTreeMap (Bor (List ℕ)) ℕ) (firsts : List ℕ)
    (place number : ℕ) (list d : Bor (List ℕ)) → AreKnown (lists_of lists) known firsts → place < length lists
    → list ≡ get_or lists place d →
    get list_cmp known list ≡ Some number → IsNumberOf (lists_of lists) firsts place number
number_again lists known firsts place number list d are h at found = record {
  within = are.within list number found;
  same = are.right list number found ∙ sym (list_here lists place list d h at);
}

-- ---- a new number

pub known_more : (lists : List (Bor (List ℕ))) (known new : BTreeMap (Bor (List ℕ)) ℕ) (firsts after : List ℕ)
    (place number : ℕ) (list d : Bor (List ℕ)) → AreKnown (lists_of lists) known firsts → place < length lists
    → list ≡ get_or lists place d →
    after ≡ firsts ++ place ∷ [] → number ≡ length firsts
    → ((q : Bor (List ℕ)) → get list_cmp new q ≡ cond (is_at (list_cmp list) q) (Some number)
    (get list_cmp known q)) → AreKnown (lists_of lists) new after
known_more lists known new firsts after place number list d are h at e n u = record {
  places = subst (All (λ f. f < length (lists_of lists))) (sym e)
      (All-push (λ f. f < length (lists_of lists)) firsts place are.places
      (subst (λ m. place < m) (sym (length-map lists (λ (x : Bor (List ℕ)). x.now))) h));
  within = λ q m found. elim (cases_Bool (is_at (list_cmp list) q)) [
    | inl hit ↦ (let long = longer_by_one firsts after place e in let is = here q m found hit in omega arith)
    | inr miss ↦ (let long = longer_by_one firsts after place e in let low =
        are.within q m (before q m found miss) in omega arith)
  ];
  right = λ q m found. elim (cases_Bool (is_at (list_cmp list) q)) [
    | inl hit ↦ ap (list_at (lists_of lists)) (last_here firsts after place m e (here q m found hit ∙ n))
        ∙ (list_here lists place list d h at ∙ tells_apart exact_bytes list.now q.now hit)
    | inr miss ↦ ap (list_at (lists_of lists))
        (front_here firsts after place m e (are.within q m (before q m found miss)))
        ∙ are.right q m (before q m found miss)
  ];
}
  where
    here : (q : Bor (List ℕ)) (m : ℕ) → get list_cmp new q ≡ Some m → is_at (list_cmp list) q ≡ true
        → m ≡ number
    here q m found hit = same_Some m number
        (sym found ∙ (u q ∙ cond-true (is_at (list_cmp list) q) (Some number) (get list_cmp known q) hit))

    before : (q : Bor (List ℕ)) (m : ℕ) → get list_cmp new q ≡ Some m → is_at (list_cmp list) q ≡ false
        → get list_cmp known q ≡ Some m
    before q m found miss =
        sym (u q ∙ cond-false (is_at (list_cmp list) q) (Some number) (get list_cmp known q) miss) ∙ found

-- ---- all numbers

number_stays : (lists : List (List ℕ)) (firsts after : List ℕ) (place number : ℕ) → GoesOn firsts after
    → IsNumberOf lists firsts place number → IsNumberOf lists after place number
number_stays lists firsts after place number on is = record {
  within = (let longer = on.longer in let within = is.within in omega arith);
  same = ap (list_at lists) (on.same number is.within) ∙ is.same;
}

pub numbers_more : (lists : List (List ℕ)) (firsts after numbers new : List ℕ) (i number : ℕ)
    → length numbers ≡ i → new ≡ numbers ++ number ∷ [] → GoesOn firsts after
    → IsNumberOf lists after i number →
    ((k : ℕ) → k < i → IsNumberOf lists firsts k (slice_index numbers k)) → (k : ℕ) → k < i + 1
    → IsNumberOf lists after k (slice_index new k)
numbers_more lists firsts after numbers new i number many e on is all k h = elim (old_or_new k i h) [
  | inl old ↦ subst (IsNumberOf lists after k)
      (sym (front_here numbers new number k e (omega (arith, old, many))))
      (number_stays lists firsts after k (slice_index numbers k) on (all k old))
  | inr last ↦ subst (λ (j : ℕ). IsNumberOf lists after j (slice_index new k)) (sym last)
      (subst (IsNumberOf lists after i) (sym (last_here numbers new number k e (last ∙ sym many))) is)
]

pub numbers_end : (lists : List (Bor (List ℕ))) (firsts numbers : List ℕ) (i : ℕ) → length lists ≡ i
    → length numbers ≡ i → All (λ f. f < length (lists_of lists)) firsts →
    ((k : ℕ) → k < i → IsNumberOf (lists_of lists) firsts k (slice_index numbers k))
    → IsNumbering (lists_of lists) numbers firsts
numbers_end lists firsts numbers i e many places all = record {
  many = many ∙ (sym e ∙ sym (length-map lists (λ (x : Bor (List ℕ)). x.now)));
  places = places;
  each = λ k h. all k (subst (λ n. k < n) (length-map lists (λ (x : Bor (List ℕ)). x.now) ∙ e) h);
}
