-- First appearances: how they grow, and the numbers of occurrences among them.
use Rattle.std.proofs.Common.{◌≡◌, ◌≢◌, ◌+◌, ◌-◌, ◌<◌, ◌≤◌, ◌↔◌, ◌⊎◌, ◌&&◌, ◌||◌, ℕ, zero, suc, Bool, true}
use Rattle.std.proofs.Common.{false, not, cond, List, [], ◌∷◌, ◌++◌, length, map, take, get_or, nat_lt}
use Rattle.std.proofs.Common.{Option, Some, None, option_map, slice_get, refl, sym, ◌∙◌, subst, ap, inl, inr}
use Rattle.std.proofs.Common.{arith, Contains, All, filter, append-nil, Bor}
use Rattle.std.specs.Option.{is_some}
use Rattle.std.specs.Str.{bytes_eq}
use Rattle.std.proofs.lemmas.Bool.{cases_lt, cases_Bool, false≢true}
use Rattle.std.proofs.lemmas.Bool.Decides.{nat_tests}
use Rattle.std.proofs.lemmas.List.{length-append, length-map, get_or_append_left, length-take, get_or_push}
use Rattle.std.proofs.lemmas.List.{get_or_read, get_or-map, same_lists, map_push, take_more, take_all}
use Rattle.std.proofs.lemmas.List.Elements.{filter-append, filter_passes}
use Rattle.std.proofs.lemmas.List.Kept.{AllPairs-cons, AllPairs-filter}
use Rattle.std.specs.List.{AllPairs}
use Rattle.std.proofs.lemmas.Option.{slice_get_within, slice_get-get_or, slice_get-map, get_or_from_slice_get}
use Rattle.std.proofs.lemmas.Slice.Eq.{bytes_eq-Decides}
use Rattle.pl_names.specs.Names.{texts, number_among, first_appearances}
use Rattle.pl_names.specs.Entries.{earlier, if_before, AreNumbered}
use Rattle.pl_names.proofs.Numbers.{same_name, other_name, none_is, least_is, number_place}

abbrev pub Names : Type 0
Names = List (List ℕ)

-- ---- filters

filter_of_filter_cons : (p q : List ℕ → Bool) (x : List ℕ) (xs : Names) (b : Bool) → q x ≡ b →
    filter p (filter q xs) ≡ filter (λ y. q y && p y) xs →
    filter p (cond b (x ∷ filter q xs) (filter q xs)) ≡ cond (b && p x) (x ∷ filter (λ y. q y && p y) xs)
    (filter (λ y. q y && p y) xs)
filter_of_filter_cons p q x xs true e next = ap (λ zs. cond (p x) (x ∷ zs) zs) next
filter_of_filter_cons p q x xs false e next = next

filter_of_filter : (p q : List ℕ → Bool) (xs : Names) → filter p (filter q xs) ≡ filter (λ x. q x && p x) xs
filter_of_filter p q [] = refl
filter_of_filter p q (x ∷ xs) = filter_of_filter_cons p q x xs (q x) refl (filter_of_filter p q xs)

filter_same : (p q : List ℕ → Bool) (xs : Names) → ((x : List ℕ) → p x ≡ q x) → filter p xs ≡ filter q xs
filter_same p q [] same = refl
filter_same p q (x ∷ xs) same = rw (same x, filter_same p q xs same) refl

filter_all : (xs : Names) → filter (λ _. true) xs ≡ xs
filter_all [] = refl
filter_all (x ∷ xs) = ap (λ zs. x ∷ zs) (filter_all xs)

-- ---- one name more

-- a name is among the names
abbrev pub member : Names → List ℕ → Bool
member [] name = false
member (x ∷ xs) name = bytes_eq name x || member xs name

not_either : (a b : Bool) → (not a && not b) ≡ not (b || a)
not_either true true = refl
not_either true false = refl
not_either false true = refl
not_either false false = refl

firsts-append : (xs ys : Names) → first_appearances (xs ++ ys) ≡ first_appearances xs ++
    filter (λ y. not (member xs y)) (first_appearances ys)
firsts-append [] ys = sym (filter_all (first_appearances ys))
firsts-append (x ∷ xs) ys =
    ap (λ zs. x ∷ filter (λ y. not (bytes_eq y x)) zs) (firsts-append xs ys)
    ∙ ap (λ zs. x ∷ zs) (filter-append (λ y. not (bytes_eq y x)) (first_appearances xs)
    (filter (λ y. not (member xs y)) (first_appearances ys))
    ∙ ap (λ zs. filter (λ y. not (bytes_eq y x)) (first_appearances xs) ++ zs)
    (filter_of_filter (λ y. not (bytes_eq y x)) (λ y. not (member xs y)) (first_appearances ys)
    ∙ filter_same (λ y. not (member xs y) && not (bytes_eq y x)) (λ y. not (bytes_eq y x || member xs y))
    (first_appearances ys) (λ y. not_either (member xs y) (bytes_eq y x))))

-- one that is among the names adds nothing, and one that isn't is added at the end
pub firsts_again : (xs : Names) (name : List ℕ) → member xs name ≡ true →
    first_appearances (xs ++ name ∷ []) ≡ first_appearances xs
firsts_again xs name h = firsts-append xs (name ∷ []) ∙ (rw h (append-nil (first_appearances xs)))

pub firsts_more : (xs : Names) (name : List ℕ) → member xs name ≡ false →
    first_appearances (xs ++ name ∷ []) ≡ first_appearances xs ++ name ∷ []
firsts_more xs name h = firsts-append xs (name ∷ []) ∙ (rw h refl)

-- ---- places

member_at : (xs : Names) (name : List ℕ) (k : ℕ) → slice_get xs k ≡ Some name → member xs name ≡ true
member_at [] name k h = cc
member_at (x ∷ xs) name zero h = let e : name ≡ x = cc in rw (same_name name x e) refl
member_at (x ∷ xs) name (suc k) h = rw (member_at xs name k h) (or_true (bytes_eq name x))
  where
    or_true : (b : Bool) → (b || true) ≡ true
    or_true true = refl
    or_true false = refl

-- the places of a part of a list
pub get_in_take : (xs : Names) (n k : ℕ) → k < n → slice_get (take n xs) k ≡ slice_get xs k
get_in_take xs zero k l = absurd (omega arith)
get_in_take [] (suc n) k l = refl
get_in_take (x ∷ xs) (suc n) zero l = refl
get_in_take (x ∷ xs) (suc n) (suc k) l = get_in_take xs n k (omega arith)

get_in_front : (xs ys : Names) (k : ℕ) → k < length xs → slice_get (xs ++ ys) k ≡ slice_get xs k
get_in_front [] ys k l = absurd (omega arith)
get_in_front (x ∷ xs) ys zero l = refl
get_in_front (x ∷ xs) ys (suc k) l = get_in_front xs ys k (omega arith)

get_at_end : (xs : Names) (name : List ℕ) → slice_get (xs ++ name ∷ []) (length xs) ≡ Some name
get_at_end [] name = refl
get_at_end (x ∷ xs) name = get_at_end xs name

-- a name that stands somewhere has a number, and stands nowhere before it
has_number : (xs : Names) (name : List ℕ) (k : ℕ) → slice_get xs k ≡ Some name →
    number_among xs name ≡ None → ⊥
has_number [] name k s h = cc
has_number (x ∷ xs) name zero s h =
    let e : x ≡ name = cc in
    let some : ◌≡◌ {A = Option ℕ} (Some 0) None = rw (same_name x name e) at h in
    cc
has_number (x ∷ xs) name (suc k) s h = by_test (λ n. has_number xs name k s n) (cases_Bool (bytes_eq x name))
  where
    rest_none : (r : Option ℕ) → number_among xs name ≡ r → option_map suc r ≡ None →
        number_among xs name ≡ None
    rest_none None e n = e
    rest_none (Some m) e n = cc

    by_test : (number_among xs name ≡ None → ⊥) → (bytes_eq x name ≡ true) ⊎ (bytes_eq x name ≡ false) → ⊥
    by_test next (inl t) = let some : ◌≡◌ {A = Option ℕ} (Some 0) None = rw t at h in cc
    by_test next (inr f) = next (rest_none (number_among xs name) refl (rw f at h))

not_before : (xs : Names) (name : List ℕ) (k m : ℕ) → number_among xs name ≡ Some k → m < k →
    slice_get xs m ≡ Some name → ⊥
not_before [] name k m h l s = cc
not_before (x ∷ xs) name k m h l s = by_test (λ k' m' h' l' s'. not_before xs name k' m' h' l' s')
    (cases_Bool (bytes_eq x name))
  where
    at_rest : ((k' m' : ℕ) → number_among xs name ≡ Some k' → m' < k' → slice_get xs m' ≡ Some name → ⊥) →
        bytes_eq x name ≡ false → (r : Option ℕ) → number_among xs name ≡ r → option_map suc r ≡ Some k →
        (m' : ℕ) → m' ≡ m → slice_get (x ∷ xs) m' ≡ Some name → ⊥
    at_rest next f None e n m' is s' = cc
    at_rest next f (Some k') e n zero is s' = let same : x ≡ name = cc in
        false≢true (sym f ∙ same_name x name same)
    at_rest next f (Some k') e n (suc m') is s' = let up : suc k' ≡ k = cc in next k' m' e (omega arith) s'

    by_test : ((k' m' : ℕ) → number_among xs name ≡ Some k' → m' < k' → slice_get xs m' ≡ Some name → ⊥) →
        (bytes_eq x name ≡ true) ⊎ (bytes_eq x name ≡ false) → ⊥
    by_test next (inl t) = let zero_is : ◌≡◌ {A = Option ℕ} (Some 0) (Some k) = rw t at h in
        let z : 0 ≡ k = cc in absurd (omega arith)
    by_test next (inr f) = at_rest next f (number_among xs name) refl (rw f at h) m refl s

-- what is said of an earlier place
earlier_is : (r : Option ℕ) (i first : ℕ) → if_before i r ≡ Some first → (r ≡ Some first) × (first < i)
earlier_is None i first h = cc
earlier_is (Some n) i first h = by_test (cases_Bool (nat_lt n i))
  where
    by_test : (nat_lt n i ≡ true) ⊎ (nat_lt n i ≡ false) → (◌≡◌ {A = Option ℕ} (Some n) (Some first)) ×
        (first < i)
    by_test (inl t) =
        let e : ◌≡◌ {A = Option ℕ} (Some n) (Some first) = rw t at h in
        let same : n ≡ first = cc in
        let less : n < i = grind (arith, nat_tests) in
        (e, omega arith)
    by_test (inr f) = let none : ◌≡◌ {A = Option ℕ} None (Some first) = rw f at h in cc

no_earlier : (xs : Names) (i : ℕ) (name : List ℕ) (k : ℕ) → earlier xs name i ≡ None → k < i →
    slice_get xs k ≡ Some name → ⊥
no_earlier xs i name k e l s = by_number (number_among xs name) refl e
  where
    by_number : (r : Option ℕ) → number_among xs name ≡ r → if_before i r ≡ None → ⊥
    by_number None r h = has_number xs name k s r
    by_number (Some n) r h = elim (cases_lt n i) [
      | inl lt ↦ (
          let t : nat_lt n i ≡ true = grind (arith, nat_tests) in
          let some : ◌≡◌ {A = Option ℕ} (Some n) None = rw t at h in
          cc)
      | inr ge ↦ not_before xs name n k r (omega arith) s
    ]

-- where no place has the name, it isn't among the names
pub not_member : (xs : Names) (name : List ℕ) → ((k : ℕ) → slice_get xs k ≡ Some name → ⊥) →
    member xs name ≡ false
not_member [] name no_place = refl
not_member (x ∷ xs) name no_place =
    let here : bytes_eq name x ≡ false = other_name name x (λ e. no_place 0 (ap (λ y. Some y) (sym e))) in
    let rest : member xs name ≡ false = not_member xs name (λ k h. no_place (suc k) h) in
    rw (here, rest) refl

-- what isn't among the names has no number
pub no_number : (xs : Names) (name : List ℕ) → member xs name ≡ false → number_among xs name ≡ None
no_number xs name h = none_is xs name (λ m k. false≢true (sym h ∙ member_at xs name m k))

-- a number stays, whatever names follow
pub number_front : (xs ys : Names) (name : List ℕ) (k : ℕ) → number_among xs name ≡ Some k →
    number_among (xs ++ ys) name ≡ Some k
number_front xs ys name k h =
    let stands : slice_get xs k ≡ Some name = number_place xs name k h in
    let within : k < length xs = slice_get_within xs k name stands in
    least_is (xs ++ ys) name k (get_in_front xs ys k within ∙ stands)
    (λ m l s. not_before xs name k m h l (sym (get_in_front xs ys m (omega (arith, within))) ∙ s))

-- and the name that follows has the next number
pub number_new : (xs : Names) (name : List ℕ) → number_among xs name ≡ None →
    number_among (xs ++ name ∷ []) name ≡ Some (length xs)
number_new xs name h =
    least_is (xs ++ name ∷ []) name (length xs) (get_at_end xs name)
    (λ m l s. has_number xs name m (sym (get_in_front xs (name ∷ []) m l) ∙ s) h)

-- ---- the names are just those that appear

member_filter_cons : (q : List ℕ → Bool) (y : List ℕ) (ys : Names) (name : List ℕ) → q name ≡ true →
    (b : Bool) → q y ≡ b → member (filter q ys) name ≡ member ys name →
    member (cond b (y ∷ filter q ys) (filter q ys)) name ≡ (bytes_eq name y || member ys name)
member_filter_cons q y ys name h true e next = ap (λ b. bytes_eq name y || b) next
member_filter_cons q y ys name h false e next =
    let differs : bytes_eq name y ≡ false = other_name name y (λ s. false≢true (sym e ∙ ap q (sym s) ∙ h)) in
    rw differs next

member_filter : (q : List ℕ → Bool) (ys : Names) (name : List ℕ) → q name ≡ true →
    member (filter q ys) name ≡ member ys name
member_filter q [] name h = refl
member_filter q (y ∷ ys) name h = member_filter_cons q y ys name h (q y) refl (member_filter q ys name h)

pub member_firsts : (xs : Names) (name : List ℕ) → member (first_appearances xs) name ≡ member xs name
member_firsts [] name = refl
member_firsts (x ∷ xs) name = by_test (cases_Bool (bytes_eq name x)) (member_firsts xs name)
  where
    by_test : (bytes_eq name x ≡ true) ⊎ (bytes_eq name x ≡ false) →
        member (first_appearances xs) name ≡ member xs name →
        member (first_appearances (x ∷ xs)) name ≡ member (x ∷ xs) name
    by_test (inl t) next = rw t refl
    by_test (inr f) next =
        let passes : not (bytes_eq name x) ≡ true = rw f refl in
        rw f (member_filter (λ y. not (bytes_eq y x)) (first_appearances xs) name passes ∙ next)

-- ---- the numbers of the occurrences, as far as they are made

pub record AreNumberedUpTo (occurrences : Names) (i : ℕ) (names : Names) (numbers : List ℕ) : Type 0 where
  pub names_are : names ≡ first_appearances (take i occurrences)
  pub count : length numbers ≡ i
  pub few : length names ≤ i
  pub each : (k : ℕ) → k < i → number_among names (get_or occurrences k []) ≡ Some (get_or numbers k 0)

pub numbered_none : (occurrences : Names) → AreNumberedUpTo occurrences 0 [] []
numbered_none occurrences = record {
  names_are = refl;
  count = refl;
  few = omega arith;
  each = λ k l. absurd (omega arith);
}

-- what the next occurrence is
taken_more : (occurrences : Names) (i : ℕ) (name : List ℕ) → slice_get occurrences i ≡ Some name →
    take (i + 1) occurrences ≡ take i occurrences ++ name ∷ []
taken_more occurrences i name h =
    let within : i < length occurrences = slice_get_within occurrences i name h in
    take_more occurrences i [] within ∙
    ap (λ x. take i occurrences ++ x ∷ []) (get_or_from_slice_get occurrences i name [] h)

-- a name that appeared has the number of its first occurrence
pub numbered_again : (occurrences : Names) (i : ℕ) (names : Names) (numbers : List ℕ) (name : List ℕ)
    (first number : ℕ) → slice_get occurrences i ≡ Some name → Some first ≡ earlier occurrences name i →
    number ≡ get_or numbers first number → AreNumberedUpTo occurrences i names numbers →
    AreNumberedUpTo occurrences (i + 1) names (numbers ++ number ∷ [])
numbered_again occurrences i names numbers name first number here e read up = record {
  names_are = up.names_are ∙ sym (ap first_appearances (taken_more occurrences i name here) ∙
      firsts_again (take i occurrences) name appeared);
  count = length-append numbers (number ∷ []) ∙ (rw up.count refl);
  few = omega (arith, up.few);
  each = each;
}
  where
    known : (number_among occurrences name ≡ Some first) × (first < i)
    known = earlier_is (number_among occurrences name) i first (sym e)

    stands : slice_get occurrences first ≡ Some name
    stands = number_place occurrences name first known.0

    appeared : member (take i occurrences) name ≡ true
    appeared = member_at (take i occurrences) name first (get_in_take occurrences i first known.1 ∙ stands)

    number_is : number_among names name ≡ Some number
    number_is =
        let old = up.each first known.1 in
        let name_is : get_or occurrences first [] ≡ name =
        get_or_from_slice_get occurrences first name [] stands in
        let reads : get_or numbers first 0 ≡ number =
        sym (get_or_read numbers first number (omega (arith, up.count, known.1)) read 0) in
        rw (name_is, reads) at old

    each : (k : ℕ) → k < i + 1 → number_among names (get_or occurrences k []) ≡ Some
        (get_or (numbers ++ number ∷ []) k 0)
    each k l = elim (cases_lt k i) [
      | inl lt ↦ up.each k lt ∙ ap (λ n. Some n)
          (sym (get_or_append_left numbers (number ∷ []) 0 k (omega (arith, up.count))))
      | inr ge ↦ (
          let last : k ≡ i = omega arith in
          let name_is : get_or occurrences k [] ≡ name = ap (λ n. get_or occurrences n []) last ∙
          get_or_from_slice_get occurrences i name [] here in
          let reads : get_or (numbers ++ number ∷ []) k 0 ≡ number = get_or_push numbers number 0 k
          (up.count ∙ sym last) in
          rw (name_is, reads) number_is)
    ]

-- a name that didn't appear is the next one
pub numbered_more : (occurrences : Names) (i : ℕ) (names : Names) (numbers : List ℕ) (name : List ℕ) →
    slice_get occurrences i ≡ Some name → earlier occurrences name i ≡ None →
    AreNumberedUpTo occurrences i names numbers →
    AreNumberedUpTo occurrences (i + 1) (names ++ name ∷ []) (numbers ++ length names ∷ [])
numbered_more occurrences i names numbers name here e up = record {
  names_are = ap (λ xs. xs ++ name ∷ []) up.names_are ∙
      sym (ap first_appearances (taken_more occurrences i name here) ∙
      firsts_more (take i occurrences) name new);
  count = length-append numbers (length names ∷ []) ∙ (rw up.count refl);
  few = omega (arith, up.few, length-append names (name ∷ []));
  each = each;
}
  where
    new : member (take i occurrences) name ≡ false
    new = not_member (take i occurrences) name (λ k s.
        let within : k < i = omega (
          arith,
          slice_get_within (take i occurrences) k name s,
          length-take i occurrences,
        ) in
        no_earlier occurrences i name k e within (sym (get_in_take occurrences i k within) ∙ s))

    none : number_among names name ≡ None
    none = no_number names name (ap (λ xs. member xs name) up.names_are ∙
        member_firsts (take i occurrences) name ∙ new)

    each : (k : ℕ) → k < i + 1 → number_among (names ++ name ∷ []) (get_or occurrences k []) ≡ Some
        (get_or (numbers ++ length names ∷ []) k 0)
    each k l = elim (cases_lt k i) [
      | inl lt ↦ number_front names (name ∷ []) (get_or occurrences k []) (get_or numbers k 0)
          (up.each k lt) ∙ ap (λ n. Some n) (sym (get_or_append_left numbers (length names ∷ []) 0 k
          (omega (arith, up.count))))
      | inr ge ↦ (
          let last : k ≡ i = omega arith in
          let name_is : get_or occurrences k [] ≡ name = ap (λ n. get_or occurrences n []) last ∙
          get_or_from_slice_get occurrences i name [] here in
          let reads : get_or (numbers ++ length names ∷ []) k 0 ≡ length names =
          get_or_push numbers (length names) 0 k (up.count ∙ sym last) in
          rw (name_is, reads) (number_new names name none))
    ]

-- when all are numbered
pub numbered_all : (occurrences : Names) (i : ℕ) (names : List (Bor (List ℕ))) (numbers : List ℕ) →
    length occurrences ≤ i → AreNumberedUpTo occurrences i (texts names) numbers → i ≤ length occurrences →
    AreNumbered occurrences names numbers
numbered_all occurrences i names numbers past up within = record {
  names_are = names_are;
  numbers_are = numbers_are;
}
  where
    names_are : texts names ≡ first_appearances occurrences
    names_are = up.names_are ∙ ap first_appearances (take_all i occurrences past)

    same_length : length (map Some numbers) ≡ length
        (map (number_among (first_appearances occurrences)) occurrences)
    same_length = length-map numbers (λ (n : ℕ). Some n) ∙ up.count ∙
        (let e : i ≡ length occurrences = omega arith in e) ∙
        sym (length-map occurrences (number_among (first_appearances occurrences)))

    numbers_are : map Some numbers ≡ map (number_among (first_appearances occurrences)) occurrences
    numbers_are = same_lists (map Some numbers) (map (number_among (first_appearances occurrences))
        occurrences) same_length (λ k d l.
        let l' : k < length numbers = omega (arith, length-map numbers (λ (n : ℕ). Some n)) in
        get_or-map (λ (n : ℕ). Some n) numbers k 0 d l'
        ∙ sym (up.each k (omega (arith, up.count)))
        ∙ ap (λ xs. number_among xs (get_or occurrences k [])) names_are
        ∙ sym (get_or-map (number_among (first_appearances occurrences)) occurrences k [] d
        (omega (arith, up.count))))

-- ---- a look-up among the distinct names, through the occurrences

pub numbered_within : (occurrences : Names) (names : List (Bor (List ℕ))) (numbers : List ℕ) (name : List ℕ)
    (first : ℕ) → AreNumbered occurrences names numbers → Some first ≡ number_among occurrences name →
    first < length numbers
numbered_within occurrences names numbers name first are e =
    let within = slice_get_within occurrences first name (number_place occurrences name first (sym e)) in
    omega (
      arith,
      within,
      length-map numbers (λ (n : ℕ). Some n),
      length-map occurrences
          (number_among (first_appearances occurrences)),
      ap length are.numbers_are,
    )

pub number_of_first : (occurrences : Names) (names : List (Bor (List ℕ))) (numbers : List ℕ) (name : List ℕ)
    (first number : ℕ) → AreNumbered occurrences names numbers → Some first ≡ number_among occurrences name →
    number ≡ get_or numbers first number → Some number ≡ number_among (first_appearances occurrences) name
number_of_first occurrences names numbers name first number are e read =
    let stands : slice_get occurrences first ≡ Some name = number_place occurrences name first (sym e) in
    let within : first < length occurrences = slice_get_within occurrences first name stands in
    let within_numbers : first < length numbers = numbered_within occurrences names
    numbers name first are e in
    ap (λ n. Some n) (get_or_read numbers first number within_numbers read 0)
    ∙ sym (get_or-map (λ (n : ℕ). Some n) numbers first 0 None within_numbers)
    ∙ ap (λ xs. get_or xs first None) are.numbers_are
    ∙ get_or-map (number_among (first_appearances occurrences)) occurrences first [] None within
    ∙ ap (number_among (first_appearances occurrences))
    (get_or_from_slice_get occurrences first name [] stands)

pub no_first : (occurrences : Names) (name : List ℕ) → None ≡ number_among occurrences name →
    None ≡ number_among (first_appearances occurrences) name
no_first occurrences name e =
    let absent : member occurrences name ≡ false = not_member occurrences name
    (λ k s. has_number occurrences name k s (sym e)) in
    sym (no_number (first_appearances occurrences) name (member_firsts occurrences name ∙ absent))

-- ---- the loop's steps, in what its calls say

-- a borrowed name that isn't there
abbrev pub no_name : Bor (List ℕ)
no_name = record { ref_ptr = (0, 0); now = [] }

text_at : (items : List (Bor (List ℕ))) (i : ℕ) → i < length items →
    slice_get (texts items) i ≡ Some (get_or items i no_name).now
text_at items i l = slice_get-map (λ (name : Bor (List ℕ)). name.now) items i ∙
    ap (option_map (λ (name : Bor (List ℕ)). name.now)) (slice_get-get_or items i no_name l)

pub step_again : (items names names' : List (Bor (List ℕ))) (occurrences : Names) (numbers numbers' : List ℕ)
    (i first number found : ℕ) (r : Option ℕ) → texts items ≡ occurrences → i < length items →
    r ≡ earlier occurrences (get_or items i no_name).now i → r ≡ Some first → number ≡ found →
    found ≡ get_or numbers first found → names' ≡ names → numbers' ≡ numbers ++ number ∷ [] →
    AreNumberedUpTo (texts items) i (texts names) numbers →
    AreNumberedUpTo (texts items) (i + 1) (texts names') numbers'
step_again items names names' occurrences numbers numbers' i first number found r same l e s is_found read
    names_is numbers_is up =
    let known : Some first ≡ earlier (texts items) (get_or items i no_name).now i = sym s ∙ e ∙
    ap (λ xs. earlier xs (get_or items i no_name).now i) (sym same) in
    rw (names_is, numbers_is, is_found) (numbered_again (texts items) i (texts names) numbers
    (get_or items i no_name).now first found (text_at items i l) known read up)

pub step_more : (items names names' : List (Bor (List ℕ))) (occurrences : Names) (numbers numbers' : List ℕ)
    (i number : ℕ) (r : Option ℕ) → texts items ≡ occurrences → i < length items →
    r ≡ earlier occurrences (get_or items i no_name).now i → r ≡ None →
    names' ≡ names ++ get_or items i no_name ∷ [] → number ≡ length names' - 1 →
    numbers' ≡ numbers ++ number ∷ [] → AreNumberedUpTo (texts items) i (texts names) numbers →
    AreNumberedUpTo (texts items) (i + 1) (texts names') numbers'
step_more items names names' occurrences numbers numbers' i number r same l e s names_is
    number_is numbers_is up =
    let unknown : earlier (texts items) (get_or items i no_name).now i ≡ None =
    ap (λ xs. earlier xs (get_or items i no_name).now i) same ∙ sym e ∙ s in
    let text_is : texts names' ≡ texts names ++ (get_or items i no_name).now ∷ [] = ap texts names_is ∙
    map_push (λ (name : Bor (List ℕ)). name.now) names (get_or items i no_name) in
    let count : number ≡ length (texts names) =
    omega (
      arith,
      number_is,
      ap length names_is,
      length-append names (get_or items i no_name ∷ []),
      length-map names (λ (name : Bor (List ℕ)). name.now),
    ) in
    rw (text_is, numbers_is, count) (numbered_more (texts items) i (texts names) numbers
    (get_or items i no_name).now (text_at items i l) unknown up)

-- ---- the first appearances are just the names

member_contains : (xs : Names) (name : List ℕ) → member xs name ≡ true → Contains xs name
member_contains [] name h = absurd (false≢true h)
member_contains (x ∷ xs) name h = by_test (λ n. member_contains xs name n) (cases_Bool (bytes_eq name x))
  where
    by_test : (member xs name ≡ true → Contains xs name) → (bytes_eq name x ≡ true) ⊎
        (bytes_eq name x ≡ false) → Contains (x ∷ xs) name
    by_test next (inl t) = (0, omega arith, sym ((bytes_eq-Decides name x).0 t))
    by_test next (inr f) = let at = next (rw f at h) in (suc at.0, omega (arith, at.1), at.2)

contains_member : (xs : Names) (name : List ℕ) → Contains xs name → member xs name ≡ true
contains_member xs name (k, l, e) = member_at xs name k (slice_get-get_or xs k name l ∙ ap (λ x. Some x) e)

pub firsts_are_names : (xs : Names) (name : List ℕ) → Contains (first_appearances xs) name ↔ Contains xs name
firsts_are_names xs name = (
  λ c. member_contains xs name (sym (member_firsts xs name) ∙ contains_member (first_appearances xs) name c),
  λ c. member_contains (first_appearances xs) name (member_firsts xs name ∙ contains_member xs name c),
)

pub numbered_from : (items : List (Bor (List ℕ))) (occurrences : Names) (i : ℕ) (names : List (Bor (List ℕ)))
    (numbers : List ℕ) → texts items ≡ occurrences → length items ≤ i → i ≤ length items →
    AreNumberedUpTo (texts items) i (texts names) numbers → AreNumbered occurrences names numbers
numbered_from items occurrences i names numbers same past within up =
    let count : length (texts items) ≡ length items = length-map items (λ (name : Bor (List ℕ)). name.now) in
    rw (← same) (numbered_all (texts items) i names numbers (omega arith) up (omega arith))

-- ---- the first appearances differ

firsts_differ : (xs : Names) → AllPairs (λ a b. a ≢ b) (first_appearances xs)
firsts_differ [] = λ i j d l m. absurd (omega arith)
firsts_differ (x ∷ xs) =
    AllPairs-cons (λ a b. a ≢ b) x (filter (λ y. not (bytes_eq y x)) (first_appearances xs)) others
    (AllPairs-filter (λ a b. a ≢ b) (λ y. not (bytes_eq y x)) (first_appearances xs) (firsts_differ xs))
  where
    differs : (y : List ℕ) → not (bytes_eq y x) ≡ true → x ≢ y
    differs y t e = false≢true (sym (ap not (same_name y x (sym e))) ∙ t)

    others : All (λ y. x ≢ y) (filter (λ y. not (bytes_eq y x)) (first_appearances xs))
    others k d l = differs (get_or (filter (λ y. not (bytes_eq y x)) (first_appearances xs)) k d)
        (filter_passes (λ y. not (bytes_eq y x)) (first_appearances xs) k d l)

-- each of them has its own place as its number
pub number_of_place : (xs : Names) (k : ℕ) → k < length (first_appearances xs) →
    number_among (first_appearances xs) (get_or (first_appearances xs) k []) ≡ Some k
number_of_place xs k l =
    least_is (first_appearances xs) (get_or (first_appearances xs) k []) k
    (slice_get-get_or (first_appearances xs) k [] l)
    (λ m lt s. firsts_differ xs m k [] lt l
    (get_or_from_slice_get (first_appearances xs) m (get_or (first_appearances xs) k []) [] s))
