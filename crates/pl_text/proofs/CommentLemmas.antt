-- The bytes that are shown are those outside comments.
use Rattle.std.proofs.Common.{◌≡◌, ◌≢◌, ◌⊎◌, ℕ, zero, suc, ◌<◌, ◌≤◌, Bool, true, false, cond, not, eqb, List}
use Rattle.std.proofs.Common.{[], ◌∷◌, length, refl, sym, ap, ◌∙◌, arith, inl, inr, Some, slice_get}
use Rattle.std.proofs.lemmas.Bool.{false≢true}
use Rattle.std.proofs.lemmas.Bool.Decides.{nat_tests}
use Rattle.std.proofs.lemmas.Option.{none-some, same_Some}
use Rattle.pl_text.specs.Comments.{IsCommented, shown, hidden}

-- what is shown of the bytes that follow a byte which stands in a comment, or does not
abbrev pub view : Bool → List ℕ → List ℕ
view true bytes = hidden bytes
view false bytes = shown bytes

-- whether a byte stands in a comment, where `inside` says it of the byte before
abbrev pub is_inside : Bool → ℕ → Bool
is_inside true b = not (eqb b 10)
is_inside false b = eqb b 59

-- position p of the bytes that follow is commented: no byte 10 stands up to it, and a comment goes on there
-- or begins at the start
pub record IsCommentedAfter (inside : Bool) (bytes : List ℕ) (p : ℕ) : Type 0 where
  pub start : ℕ
  pub begins : (slice_get bytes start ≡ Some 59) ⊎ ((start ≡ 0) × (inside ≡ true))
  pub up_to : start ≤ p
  pub in_file : p < length bytes
  pub unbroken : (q : ℕ) → start ≤ q → q ≤ p → slice_get bytes q ≢ Some 10

pub view-cons : (inside : Bool) (b : ℕ) (bytes : List ℕ) →
    view inside (b ∷ bytes) ≡ cond (is_inside inside b) 32 b ∷ view (is_inside inside b) bytes
view-cons true b bytes = by_test (eqb b 10) refl
  where
    by_test : (t : Bool) → eqb b 10 ≡ t →
        view true (b ∷ bytes) ≡ cond (not (eqb b 10)) 32 b ∷ view (not (eqb b 10)) bytes
    by_test true e = let is : b ≡ 10 = grind (arith, nat_tests) in rw (e) (ap (λ x. x ∷ shown bytes) (sym is))
    by_test false e = rw (e) refl
view-cons false b bytes = by_test (eqb b 59) refl
  where
    by_test : (t : Bool) → eqb b 59 ≡ t →
        view false (b ∷ bytes) ≡ cond (eqb b 59) 32 b ∷ view (eqb b 59) bytes
    by_test true e = rw (e) refl
    by_test false e = rw (e) refl

pub length-view : (inside : Bool) (bytes : List ℕ) → length (view inside bytes) ≡ length bytes
length-view true [] = refl
length-view false [] = refl
length-view true (b ∷ bytes) = ap length (view-cons true b bytes) ∙
    ap suc (length-view (is_inside true b) bytes)
length-view false (b ∷ bytes) = ap length (view-cons false b bytes) ∙
    ap suc (length-view (is_inside false b) bytes)

is_inside-holds : (inside : Bool) (b : ℕ) → b ≢ 10 → (b ≡ 59) ⊎ (inside ≡ true) → is_inside inside b ≡ true
is_inside-holds true b other begins = grind (arith, nat_tests)
is_inside-holds false b other (inl is) = grind (arith, nat_tests)
is_inside-holds false b other (inr never) = absurd (false≢true never)

module _ (b : ℕ) (bytes : List ℕ) (p : ℕ) where
  begins_at : (inside : Bool) (start : ℕ) →
      (slice_get (b ∷ bytes) start ≡ Some 59) ⊎ ((start ≡ 0) × (inside ≡ true)) →
      start ≤ suc p → suc p < length (b ∷ bytes) →
      ((q : ℕ) → start ≤ q → q ≤ suc p → slice_get (b ∷ bytes) q ≢ Some 10) →
      IsCommentedAfter (is_inside inside b) bytes p
  begins_at inside zero begins le lt unbroken = record {
    start = 0;
    begins =
        inr (
          refl,
          is_inside-holds inside b
              (λ is. unbroken 0 (omega arith) (omega arith) (ap Some is))
              (elim begins [ inl at ↦ inl (same_Some b 59 at) | inr h ↦ inr h.1 ]),
        );
    up_to = omega arith;
    in_file = omega arith;
    unbroken = λ q _ below. unbroken (suc q) (omega arith) (omega arith);
  }
  begins_at inside (suc start) (inl at) le lt unbroken = record {
    start = start;
    begins = inl at;
    up_to = omega arith;
    in_file = omega arith;
    unbroken = λ q above below. unbroken (suc q) (omega arith) (omega arith);
  }
  begins_at inside (suc start) (inr h) le lt unbroken = absurd (omega (arith, h.0))

  -- a position after the first is commented as it is in the bytes after the first
  pub commented-from : (inside : Bool) → IsCommentedAfter inside (b ∷ bytes) (suc p) →
      IsCommentedAfter (is_inside inside b) bytes p
  commented-from inside h = begins_at inside h.start h.begins h.up_to h.in_file h.unbroken

  goes_on : (start : ℕ) → b ≢ 10 → start ≡ 0 → ((q : ℕ) → start ≤ q → q ≤ p → slice_get bytes q ≢ Some 10) →
      (q : ℕ) → 0 ≤ q → q ≤ suc p → slice_get (b ∷ bytes) q ≢ Some 10
  goes_on start other is unbroken zero above below = λ e. other (same_Some b 10 e)
  goes_on start other is unbroken (suc q) above below = unbroken q (omega arith) (omega arith)

  begins_before : (inside : Bool) (start : ℕ) →
      (slice_get bytes start ≡ Some 59) ⊎ ((start ≡ 0) × (is_inside inside b ≡ true)) →
      start ≤ p → p < length bytes → ((q : ℕ) → start ≤ q → q ≤ p → slice_get bytes q ≢ Some 10) →
      IsCommentedAfter inside (b ∷ bytes) (suc p)
  begins_before inside start (inl at) le lt unbroken = record {
    start = suc start;
    begins = inl at;
    up_to = omega arith;
    in_file = omega arith;
    unbroken = later;
  }
    where
      later : (q : ℕ) → suc start ≤ q → q ≤ suc p → slice_get (b ∷ bytes) q ≢ Some 10
      later zero above below = absurd (omega arith)
      later (suc q) above below = unbroken q (omega arith) (omega arith)
  begins_before true start (inr (is, goes)) le lt unbroken = record {
    start = 0;
    begins = inr (refl, refl);
    up_to = omega arith;
    in_file = omega arith;
    unbroken = goes_on start (λ (e : b ≡ 10). grind (arith, nat_tests)) is unbroken;
  }
  begins_before false start (inr (is, goes)) le lt unbroken = record {
    start = 0;
    begins = inl (ap Some (let e : b ≡ 59 = grind (arith, nat_tests) in e));
    up_to = omega arith;
    in_file = omega arith;
    unbroken = goes_on start (λ (e : b ≡ 10). grind (arith, nat_tests)) is unbroken;
  }

  pub commented-to : (inside : Bool) → IsCommentedAfter (is_inside inside b) bytes p →
      IsCommentedAfter inside (b ∷ bytes) (suc p)
  commented-to inside h = begins_before inside h.start h.begins h.up_to h.in_file h.unbroken

-- the first position is commented where its byte stands in a comment
first-from : (inside : Bool) (b : ℕ) (bytes : List ℕ) (start : ℕ) →
    (slice_get (b ∷ bytes) start ≡ Some 59) ⊎ ((start ≡ 0) × (inside ≡ true)) → start ≤ 0 →
    slice_get (b ∷ bytes) 0 ≢ Some 10 →
    is_inside inside b ≡ true
first-from inside b bytes zero begins le other =
    is_inside-holds inside b (λ is. other (ap Some is))
    (elim begins [ inl at ↦ inl (same_Some b 59 at) | inr h ↦ inr h.1 ])
first-from inside b bytes (suc start) begins le other = absurd (omega arith)

first-to : (inside : Bool) (b : ℕ) (bytes : List ℕ) → is_inside inside b ≡ true →
    IsCommentedAfter inside (b ∷ bytes) 0
first-to inside b bytes goes = record {
  start = 0;
  begins = begins inside goes;
  up_to = omega arith;
  in_file = omega arith;
  unbroken = unbroken inside goes;
}
  where
    begins : (inside : Bool) → is_inside inside b ≡ true →
        (slice_get (b ∷ bytes) 0 ≡ Some 59) ⊎ ((◌≡◌ {A = ℕ} 0 0) × (inside ≡ true))
    begins true h = inr (refl, refl)
    begins false h = inl (ap Some (let e : b ≡ 59 = grind (arith, nat_tests) in e))

    other : (inside : Bool) → is_inside inside b ≡ true → b ≢ 10
    other true h = λ e. grind (arith, nat_tests)
    other false h = λ e. grind (arith, nat_tests)

    unbroken : (inside : Bool) → is_inside inside b ≡ true → (q : ℕ) → 0 ≤ q → q ≤ 0 →
        slice_get (b ∷ bytes) q ≢ Some 10
    unbroken inside h zero above below = λ e. other inside h (same_Some b 10 e)
    unbroken inside h (suc q) above below = absurd (omega arith)

-- a position that holds a byte shows a blank where it is commented, and the byte where it is not
abbrev pub IsSeen : Bool → List ℕ → ℕ → ℕ → Type 0
IsSeen inside bytes p b =
    ((slice_get (view inside bytes) p ≡ Some 32) × IsCommentedAfter inside bytes p) ⊎
    ((slice_get (view inside bytes) p ≡ Some b) × (IsCommentedAfter inside bytes p → ⊥))

pub seen : (inside : Bool) (bytes : List ℕ) (p b : ℕ) → slice_get bytes p ≡ Some b → IsSeen inside bytes p b
seen inside [] p b at = absurd (none-some b at)
seen inside (x ∷ bytes) zero b at = by_test (is_inside inside x) refl
  where
    by_test : (t : Bool) → is_inside inside x ≡ t → IsSeen inside (x ∷ bytes) 0 b
    by_test true e = inl (
      ap (λ list. slice_get list 0) (view-cons inside x bytes) ∙
          ap (λ t. Some (cond t 32 x)) e,
      first-to inside x bytes e,
    )
    by_test false e =
        inr (
          ap (λ list. slice_get list 0) (view-cons inside x bytes) ∙ ap (λ t. Some (cond t 32 x)) e ∙ at,
          λ h. false≢true (sym e ∙
              first-from inside x bytes h.start h.begins h.up_to (h.unbroken 0 h.up_to (omega arith))),
        )
seen inside (x ∷ bytes) (suc p) b at =
    elim (seen (is_inside inside x) bytes p b at) [
      | inl h ↦ inl (
        ap (λ list. slice_get list (suc p)) (view-cons inside x bytes) ∙ h.0,
        commented-to x bytes p inside h.1,
      )
      | inr h ↦
          inr (
            ap (λ list. slice_get list (suc p)) (view-cons inside x bytes) ∙ h.0,
            λ commented. h.1 (commented-from x bytes p inside commented),
          )
    ]

-- the same of a file

commented_after : (bytes : List ℕ) (p : ℕ) → IsCommented bytes p → IsCommentedAfter false bytes p
commented_after bytes p h = record {
  start = h.start;
  begins = inl h.begins;
  up_to = h.up_to;
  in_file = h.in_file;
  unbroken = h.unbroken;
}

commented : (bytes : List ℕ) (p : ℕ) → IsCommentedAfter false bytes p → IsCommented bytes p
commented bytes p h = record {
  start = h.start;
  begins = elim h.begins [ inl at ↦ at | inr never ↦ absurd (false≢true never.1) ];
  up_to = h.up_to;
  in_file = h.in_file;
  unbroken = h.unbroken;
}

-- a commented position shows a blank, and any other its byte
pub shown-cases : (bytes : List ℕ) (p b : ℕ) → slice_get bytes p ≡ Some b →
    ((slice_get (shown bytes) p ≡ Some 32) × IsCommented bytes p) ⊎
    ((slice_get (shown bytes) p ≡ Some b) × (IsCommented bytes p → ⊥))
shown-cases bytes p b at =
    elim (seen false bytes p b at) [
      | inl h ↦ inl (h.0, commented bytes p h.1)
      | inr h ↦ inr (h.0, λ c. h.1 (commented_after bytes p c))
    ]
