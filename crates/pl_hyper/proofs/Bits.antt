-- Sets of classes as the bits of a number.
use Rattle.std.proofs.Common.{◌≡◌, ◌≢◌, ℕ, ◌*◌, ◌%◌, ◌^◌, ◌<◌, ◌≤◌, ◌⊎◌, ◌↔◌, min, max, sym, ◌∙◌}
use Rattle.std.proofs.Common.{subst, inl, inr, arith, w64}
use Rattle.std.specs.Prelude.{bit_and, bit_or}
use Rattle.std.specs.Int.{bit_at, bit_not}
use Rattle.std.proofs.lemmas.Nat.Bits.{bit_at_and, bit_at_or, bit_at-lt, bit_at-zero, same_from_bits}
use Rattle.std.proofs.lemmas.Nat.Bits.{bit_at_set_same, bit_at_set_other, bit_at_clear_same}
use Rattle.std.proofs.lemmas.Nat.Bits.{bit_at_clear_other, bit_at_above}
use Rattle.std.proofs.lemmas.Nat.{and_le_l}
use Rattle.std.proofs.lemmas.Bool.{cases_lt}
use Rattle.pl_hyper.proofs.Members.{same_or_not}

-- no class is in the empty set
pub no_bit : (c : ℕ) → bit_at 0 c ≡ 1 → ⊥
no_bit c h = let none = bit_at-zero c in absurd (omega (arith, sym none ∙ h))

min_one : (x y : ℕ) → min x y ≡ 1 → y < 2 → x < 2 → (x ≡ 1) × (y ≡ 1)
min_one x y e h k = (omega arith, omega arith)

one_min : (x y : ℕ) → x ≡ 1 → y ≡ 1 → min x y ≡ 1
one_min x y a b = omega arith

max_one : (x y : ℕ) → max x y ≡ 1 → (x ≡ 1) ⊎ (y ≡ 1)
max_one x y e = grind arith

one_max : (x y : ℕ) → (x ≡ 1) ⊎ (y ≡ 1) → x < 2 → y < 2 → max x y ≡ 1
one_max x y (inl a) h k = omega arith
one_max x y (inr a) h k = omega arith

-- a class of two sets, and of either
pub and_bit : (a b c : ℕ) → (bit_at (bit_and a b) c ≡ 1) ↔ ((bit_at a c ≡ 1) × (bit_at b c ≡ 1))
and_bit a b c = (
  λ h. min_one (bit_at a c) (bit_at b c) (sym (bit_at_and a b c) ∙ h) (bit_at-lt b c)
      (bit_at-lt a c),
  λ h. bit_at_and a b c ∙ one_min (bit_at a c) (bit_at b c) h.0 h.1,
)

pub or_bit : (a b c : ℕ) → (bit_at (bit_or a b) c ≡ 1) ↔ ((bit_at a c ≡ 1) ⊎ (bit_at b c ≡ 1))
or_bit a b c = (
  λ h. max_one (bit_at a c) (bit_at b c) (sym (bit_at_or a b c) ∙ h),
  λ h. bit_at_or a b c ∙
      one_max (bit_at a c) (bit_at b c) h (bit_at-lt a c) (bit_at-lt b c),
)

min_left : (x y : ℕ) → (x ≡ 1 → y ≡ 1) → x < 2 → y < 2 → (x ≡ 1) ⊎ (x ≢ 1) → min x y ≡ x
min_left x y f h k (inl e) = let at = f e in omega arith
min_left x y f h k (inr n) = omega arith

one_or_not : (x : ℕ) → (x ≡ 1) ⊎ (x ≢ 1)
one_or_not x = grind arith

-- a set within another is what the two share
pub and_within : (a b : ℕ) → (bit_and a b ≡ a) ↔ ((c : ℕ) → bit_at a c ≡ 1 → bit_at b c ≡ 1)
and_within a b = (
  λ e c h. ((and_bit a b c).0 (subst (λ x. bit_at x c ≡ 1) (sym e) h)).1,
  λ f. same_from_bits (bit_and a b) a (λ c. bit_at_and a b c ∙ min_left (bit_at a c) (bit_at b c) (f c)
      (bit_at-lt a c) (bit_at-lt b c) (one_or_not (bit_at a c))),
)

-- ---- a set with a member more, or less

with_bit_at : (set member k : ℕ) → member < 64 → (k ≡ member) ⊎ (k ≢ member) →
    (bit_at (bit_or set (1 * 2 ^ member % 2 ^ 64)) k ≡ 1) ↔ ((bit_at set k ≡ 1) ⊎ (k ≡ member))
with_bit_at set member k h (inl e) = (
  λ b. inr e,
  λ s. subst (λ x. bit_at (bit_or set (1 * 2 ^ member % 2 ^ 64)) x ≡ 1) (sym e)
      (bit_at_set_same w64 set member h),
)
with_bit_at set member k h (inr d) =
    let same = bit_at_set_other w64 set member h k d in (
      λ b. inl (sym same ∙ b),
      λ s. elim s [
        | inl b ↦ same ∙ b
        | inr e ↦ absurd (d e)
      ],
    )

pub with_bit : (set member k : ℕ) → member < 64 →
    (bit_at (bit_or set (1 * 2 ^ member % 2 ^ 64)) k ≡ 1) ↔ ((bit_at set k ≡ 1) ⊎ (k ≡ member))
with_bit set member k h = with_bit_at set member k h (same_or_not k member)

abbrev pub cleared : ℕ → ℕ → ℕ
cleared set member = bit_and set (bit_not w64 (1 * 2 ^ member % 2 ^ 64))

without_bit_at : (set member k : ℕ) → set < 2 ^ 64 → member < 64 → (k ≡ member) ⊎ (k ≢ member) →
    (k < 64) ⊎ (64 ≤ k) → (bit_at (cleared set member) k ≡ 1) ↔ ((bit_at set k ≡ 1) × (k ≢ member))
without_bit_at set member k fits h (inl e) low =
    let none = bit_at_clear_same w64 set member h in (
      λ b. (let at : bit_at (cleared set member) member ≡ 1 =
          subst (λ x. bit_at (cleared set member) x ≡ 1) e b in absurd (omega (arith, none, at))),
      λ s. absurd (s.1 e),
    )
without_bit_at set member k fits h (inr d) (inl low) =
    let same = bit_at_clear_other w64 set member h k low d in (λ b. (sym same ∙ b, d), λ s. same ∙ s.0)
without_bit_at set member k fits h (inr d) (inr high) =
    let least = and_le_l set (bit_not w64 (1 * 2 ^ member % 2 ^ 64)) in
    let none = bit_at_above set 64 k fits high in
    let also = bit_at_above (cleared set member) 64 k (omega (arith, least, fits)) high in
    (λ b. absurd (omega (arith, also, b)), λ s. absurd (omega (arith, none, s.0)))

pub without_bit : (set member k : ℕ) → set < 2 ^ 64 → member < 64 →
    (bit_at (cleared set member) k ≡ 1) ↔ ((bit_at set k ≡ 1) × (k ≢ member))
without_bit set member k fits h = without_bit_at set member k fits h (same_or_not k member) (cases_lt k 64)

pub fewer_bits : (set member : ℕ) → member < 64 → bit_at set member ≡ 1 → cleared set member < set
fewer_bits set member h held =
    let none = bit_at_clear_same w64 set member h in
    let least = and_le_l set (bit_not w64 (1 * 2 ^ member % 2 ^ 64)) in
    let other : cleared set member ≢ set =
    λ e. (let at : bit_at (cleared set member) member ≡ 1 =
    subst (λ x. bit_at x member ≡ 1) (sym e) held in omega (arith, none, at)) in
    omega (arith, least, other)

-- a word has no member from 64 on
pub member_below : (set k : ℕ) → set < 2 ^ 64 → bit_at set k ≡ 1 → k < 64
member_below set k fits b = elim (cases_lt k 64) [
  | inl low ↦ low
  | inr high ↦ (let none = bit_at_above set 64 k fits high in absurd (omega (arith, none, b)))
]
