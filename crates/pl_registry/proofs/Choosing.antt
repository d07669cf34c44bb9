-- Which entry is expanded next: of those whose numbers are not in a list, the first in rank. How many numbers
-- below a bound are in the list tells how many turns there may still be.
use Rattle.std.proofs.Common.{◌≡◌, ◌≢◌, ◌⊎◌, ◌+◌, ◌<◌, ◌≤◌, ℕ, zero, suc, Bool, true, false, ◌||◌, IsTrue}
use Rattle.std.proofs.Common.{IsFalse, List, [], ◌∷◌, ◌++◌, Contains, refl, sym, ap, ◌∙◌, subst, inl, inr}
use Rattle.std.proofs.Common.{arith}
use Rattle.std.specs.List.{list_any}
use Rattle.std.proofs.Math.Dec.{eqb}
use Rattle.std.proofs.lemmas.Bool.{cases_Bool}
use Rattle.std.proofs.lemmas.Bool.Decides.{eqb_tells}
use Rattle.pl_task.specs.States.{State}
use Rattle.pl_registry.specs.SearchRecord.{Entry, entry_at, Precedes}
use Rattle.pl_registry.proofs.Lists.{Contains-nil, Contains-cons_first, Contains-cons_rest}
use Rattle.pl_registry.proofs.Lists.{Contains-cons_cases}
use Rattle.pl_registry.proofs.Turns.{within_or_past}
use Rattle.pl_registry.proofs.Growing.{same_or_below}

-- whether a number is in a list
abbrev pub is_in : List ℕ → ℕ → Bool
is_in xs n = list_any (λ x. eqb x n) xs

-- it is in the list, or it is not
abbrev IsInOrNot : List ℕ → ℕ → Type 0
IsInOrNot xs n = (IsTrue (is_in xs n) × Contains xs n) ⊎ (IsFalse (is_in xs n) × (Contains xs n → ⊥))

in_or_not : (xs : List ℕ) (n : ℕ) → IsInOrNot xs n
in_or_not [] n = inr (refl, Contains-nil n)
in_or_not (x ∷ xs) n = elim (eqb_tells x n) [
  | inl same ↦ inl (
    ap (λ b. b || is_in xs n) same.0,
    subst (Contains (x ∷ xs)) same.1 (Contains-cons_first x xs),
  )
  | inr other ↦ elim (in_or_not xs n) [
    | inl has ↦ inl (ap (λ b. b || is_in xs n) other.0 ∙ has.0, Contains-cons_rest x xs n has.1)
    | inr none ↦ inr (
      ap (λ b. b || is_in xs n) other.0 ∙ none.0,
      λ has. elim (Contains-cons_cases x xs n has) [ inl e ↦ other.1 e | inr rest ↦ none.1 rest ],
    )
  ]
]

abbrev one_if : Bool → ℕ
one_if true = 1
one_if false = 0

-- how many numbers below n are in the list
abbrev pub so_many : List ℕ → ℕ → ℕ
so_many xs zero = 0
so_many xs (suc n) = so_many xs n + one_if (is_in xs n)

pub so_many-fit : (xs : List ℕ) (n : ℕ) → so_many xs n ≤ n
so_many-fit xs zero = omega arith
so_many-fit xs (suc n) =
    let rest = so_many-fit xs n in
    elim (cases_Bool (is_in xs n)) [
      | inl there ↦ (let one = ap one_if there in omega (arith, rest, one))
      | inr gone ↦ (let none = ap one_if gone in omega (arith, rest, none))
    ]

or_true : (b : Bool) → (b || true) ≡ true
or_true true = refl
or_true false = refl

pushed_same : (xs : List ℕ) (t n : ℕ) → eqb t n ≡ true → is_in (xs ++ t ∷ []) n ≡ true
pushed_same [] t n same = ap (λ b. b || false) same
pushed_same (x ∷ xs) t n same = ap (λ b. eqb x n || b) (pushed_same xs t n same) ∙ or_true (eqb x n)

pushed_other : (xs : List ℕ) (t n : ℕ) → eqb t n ≡ false → is_in (xs ++ t ∷ []) n ≡ is_in xs n
pushed_other [] t n other = ap (λ b. b || false) other
pushed_other (x ∷ xs) t n other = ap (λ b. eqb x n || b) (pushed_other xs t n other)

-- a number from the bound on changes nothing below it
so_many-past : (xs : List ℕ) (t n : ℕ) → n ≤ t → so_many (xs ++ t ∷ []) n ≡ so_many xs n
so_many-past xs t zero l = refl
so_many-past xs t (suc n) l = elim (eqb_tells t n) [
  | inl same ↦ (let e = same.1 in absurd (omega (arith, e, l)))
  | inr other ↦ (
      let rest = so_many-past xs t n (omega (arith, l)) in
      let last = ap one_if (pushed_other xs t n other.0) in omega (arith, rest, last))
]

-- one more number below the bound
pub so_many-push : (xs : List ℕ) (t n : ℕ) → t < n → (Contains xs t → ⊥) →
    so_many (xs ++ t ∷ []) n ≡ suc (so_many xs n)
so_many-push xs t zero l none = absurd (omega (arith, l))
so_many-push xs t (suc n) l none = elim (eqb_tells t n) [
  | inl same ↦ (
      let rest = so_many-past xs t n (let e = same.1 in omega (arith, e)) in
      let now = ap one_if (pushed_same xs t n same.0) in
      let out = was_out (in_or_not xs n) (λ has. none (subst (Contains xs) (sym same.1) has)) in
      let before = ap one_if out in
      omega (arith, rest, now, before))
  | inr other ↦ (
      let rest = so_many-push xs t n (below t n l other.1) none in
      let last = ap one_if (pushed_other xs t n other.0) in omega (arith, rest, last))
]
  where
    was_out : {n : ℕ} → IsInOrNot xs n → (Contains xs n → ⊥) → IsFalse (is_in xs n)
    was_out (inl has) none = absurd (none has.1)
    was_out (inr out) none = out.0

    below : (t n : ℕ) → t < suc n → t ≢ n → t < n
    below t n l other = elim (same_or_below t n l) [ inl less ↦ less | inr e ↦ absurd (other e) ]

-- where all numbers below the bound are in the list
so_many-full : (xs : List ℕ) (n : ℕ) → ((i : ℕ) → i < n → Contains xs i) → so_many xs n ≡ n
so_many-full xs zero all = refl
so_many-full xs (suc n) all =
    let rest = so_many-full xs n (λ i l. all i (omega (arith, l))) in
    elim (in_or_not xs n) [
      | inl has ↦ (let one = ap one_if has.0 in omega (arith, rest, one))
      | inr none ↦ absurd (none.1 (all n (omega arith)))
    ]

-- where those below n are in the list, and no others
pub so_many-all : (xs : List ℕ) (n m : ℕ) → ((i : ℕ) → i < n → Contains xs i) →
    ((i : ℕ) → Contains xs i → i < n) → n ≤ m → so_many xs m ≡ n
so_many-all xs n zero all only l = omega (arith, l)
so_many-all xs n (suc m) all only l = elim (within_or_past m n) [
  | inl less ↦ (
      let full = so_many-full xs (suc m) (λ i w. all i (omega (arith, w, less))) in
      omega (arith, full, less, l))
  | inr past ↦ (
      let rest = so_many-all xs n m all only past in
      elim (in_or_not xs m) [
        | inl has ↦ (let w = only m has.1 in absurd (omega (arith, w, past)))
        | inr none ↦ (let gone = ap one_if none.0 in omega (arith, rest, gone))
      ])
]

-- of the entries below n, one that is not in the list, and precedes all others that are not
pub record HasNext (rank : State → ℕ) (entries : List Entry) (past : List ℕ) (n : ℕ) : Type 0 where
  pub at : ℕ
  pub there : at < n
  pub unexpanded : Contains past at → ⊥
  pub precedes : (i : ℕ) → i < n → (Contains past i → ⊥) → Precedes rank entries at i

-- by rank, or where ranks are equal by number
no_greater : (a b t n : ℕ) → a ≤ b → t ≤ n → (a < b) ⊎ ((a ≡ b) × (t ≤ n))
no_greater a b t n l m = elim (within_or_past a b) [
  | inl less ↦ inl less
  | inr past ↦ inr (omega (arith, l, past), m)
]

lower_still : (a b c t n i : ℕ) → a < b → (b < c) ⊎ ((b ≡ c) × (t ≤ i)) → (a < c) ⊎ ((a ≡ c) × (n ≤ i))
lower_still a b c t n i l (inl less) = inl (omega (arith, l, less))
lower_still a b c t n i l (inr same) = (let e = same.0 in inl (omega (arith, l, e)))

module _ (rank : State → ℕ) (entries : List Entry) (past : List ℕ) where
  abbrev rank_of : ℕ → ℕ
  rank_of n = rank (entry_at entries n).state

  itself : (n i : ℕ) → i ≡ n → Precedes rank entries n i
  itself n i e = subst (Precedes rank entries n) (sym e) (inr (refl, omega arith))

  next_to : (n : ℕ) → Contains past n → HasNext rank entries past n → HasNext rank entries past (suc n)
  next_to n has next = record {
    at = next.at;
    there = (let w = next.there in omega (arith, w));
    unexpanded = next.unexpanded;
    precedes = λ i l free. elim (same_or_below i n l) [
      | inl less ↦ next.precedes i less free
      | inr e ↦ absurd (free (subst (Contains past) (sym e) has))
    ];
  }

  first_out : (n : ℕ) → (Contains past n → ⊥) → ((i : ℕ) → i < n → Contains past i) →
      HasNext rank entries past (suc n)
  first_out n none all = record {
    at = n;
    there = omega arith;
    unexpanded = none;
    precedes = λ i l free. elim (same_or_below i n l) [
      | inl less ↦ absurd (free (all i less))
      | inr e ↦ itself n i e
    ];
  }

  -- the lower in rank of the one so far and another
  lower_of : (n : ℕ) → (Contains past n → ⊥) → HasNext rank entries past n → HasNext rank entries past (suc n)
  lower_of n none next = elim (within_or_past (rank_of n) (rank_of next.at)) [
    | inl less ↦ record {
      at = n;
      there = omega arith;
      unexpanded = none;
      precedes = λ i l free. elim (same_or_below i n l) [
        | inl below ↦ lower_still (rank_of n) (rank_of next.at) (rank_of i) next.at n i less
            (next.precedes i below free)
        | inr e ↦ itself n i e
      ];
    }
    | inr past ↦ record {
      at = next.at;
      there = (let w = next.there in omega (arith, w));
      unexpanded = next.unexpanded;
      precedes = λ i l free. elim (same_or_below i n l) [
        | inl below ↦ next.precedes i below free
        | inr e ↦ subst (Precedes rank entries next.at) (sym e)
            (no_greater (rank_of next.at) (rank_of n) next.at n past (let w = next.there in omega (arith, w)))
      ];
    }
  ]

  -- all entries below n are in the list, or one is next
  pub all_or_next : (n : ℕ) → ((i : ℕ) → i < n → Contains past i) ⊎ HasNext rank entries past n
  all_or_next zero = inl (λ i l. absurd (omega (arith, l)))
  all_or_next (suc n) = elim (all_or_next n) [
    | inl all ↦ elim (in_or_not past n) [
      | inl has ↦ inl (λ i l. elim (same_or_below i n l) [
        | inl less ↦ all i less
        | inr e ↦ subst (Contains past) (sym e) has.1
      ])
      | inr none ↦ inr (first_out n none.1 all)
    ]
    | inr next ↦ elim (in_or_not past n) [
      | inl has ↦ inr (next_to n has.1 next)
      | inr none ↦ inr (lower_of n none.1 next)
    ]
  ]
