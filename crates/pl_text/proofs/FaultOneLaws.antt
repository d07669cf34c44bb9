-- A file gives one fault at most.
use Rattle.std.proofs.Common.{◌≡◌, ℕ, false, List, ◌∷◌, refl, sym, ap, ◌∙◌, subst, arith, Some, slice_get}
use Rattle.std.proofs.Common.{Contains}
use Rattle.std.proofs.lemmas.Bool.{false≢true}
use Rattle.std.proofs.lemmas.List.Elements.{Contains-append_right}
use Rattle.std.proofs.lemmas.Option.{same_Some}
use Rattle.pl_text.specs.declared.fault.TextFault.{TextFault}
use Rattle.pl_text.specs.declared.fault.TextFault.TheVariants.{BadByte, StrayClose, TooDeep, Unclosed}
use Rattle.pl_text.specs.Bytes.{is_bad_byte}
use Rattle.pl_text.specs.Tokens.{Open, Close, tokens}
use Rattle.pl_text.specs.TextFaults.{IsBadByte, IsStrayClose, IsTooDeep, IsGivenFault}
use Rattle.pl_text.proofs.TokenLaws.{AreTokensOf-tokens}

module _ (bytes : List ℕ) where
  stray_holds : (p : ℕ) → IsStrayClose (tokens bytes) p → slice_get bytes p ≡ Some 41
  stray_holds p h =
      (((AreTokensOf-tokens bytes).members (Close p)).0
      (subst (λ ts. Contains ts (Close p)) (sym h.splits)
      (Contains-append_right h.before (Close p ∷ h.rest) (Close p) (0, omega arith, refl)))).0

  deep_holds : (p : ℕ) → IsTooDeep (tokens bytes) p → slice_get bytes p ≡ Some 40
  deep_holds p h =
      (((AreTokensOf-tokens bytes).members (Open p)).0
      (subst (λ ts. Contains ts (Open p)) (sym h.splits)
      (Contains-append_right h.before (Open p ∷ h.rest) (Open p) (0, omega arith, refl)))).0

  bad_is_none : (p q b : ℕ) → p ≡ q → IsBadByte bytes p → slice_get bytes q ≡ Some b →
      is_bad_byte b ≡ false → ⊥
  bad_is_none p q b is bad at good =
      false≢true (sym good ∙
      ap is_bad_byte (same_Some b bad.0 (sym at ∙ ap (slice_get bytes) (sym is) ∙ bad.1.0)) ∙ bad.2)

  brackets_differ : (p q : ℕ) → p ≡ q → slice_get bytes p ≡ Some 41 → slice_get bytes q ≡ Some 40 → ⊥
  brackets_differ p q is close left =
      let never = same_Some 41 40 (sym close ∙ ap (slice_get bytes) is ∙ left) in omega (arith, never)

  -- two faults that are given are one
  pub fault-only : (fault other : TextFault) → IsGivenFault bytes fault → IsGivenFault bytes other →
      fault ≡ other
  fault-only (BadByte a) (BadByte b) h k =
      ap BadByte (omega (arith, h.first (BadByte b) k.has, k.first (BadByte a) h.has))
  fault-only (BadByte a) (StrayClose b) h k =
      absurd (bad_is_none a b 41
      (omega (arith, h.first (StrayClose b) k.has, k.first (BadByte a) h.has)) h.has.here
      (stray_holds b k.has.here) refl)
  fault-only (BadByte a) (TooDeep b) h k =
      absurd (bad_is_none a b 40
      (omega (arith, h.first (TooDeep b) k.has, k.first (BadByte a) h.has)) h.has.here
      (deep_holds b k.has.here) refl)
  fault-only (BadByte a) (Unclosed b) h k = absurd (k.first (BadByte a) h.has)
  fault-only (StrayClose a) (BadByte b) h k =
      absurd (bad_is_none b a 41
      (omega (arith, h.first (BadByte b) k.has, k.first (StrayClose a) h.has)) k.has.here
      (stray_holds a h.has.here) refl)
  fault-only (StrayClose a) (StrayClose b) h k =
      ap StrayClose (omega (arith, h.first (StrayClose b) k.has, k.first (StrayClose a) h.has))
  fault-only (StrayClose a) (TooDeep b) h k =
      absurd
      (brackets_differ a b (omega (arith, h.first (TooDeep b) k.has, k.first (StrayClose a) h.has))
      (stray_holds a h.has.here) (deep_holds b k.has.here))
  fault-only (StrayClose a) (Unclosed b) h k = absurd (k.first (StrayClose a) h.has)
  fault-only (TooDeep a) (BadByte b) h k =
      absurd (bad_is_none b a 40
      (omega (arith, h.first (BadByte b) k.has, k.first (TooDeep a) h.has)) k.has.here
      (deep_holds a h.has.here) refl)
  fault-only (TooDeep a) (StrayClose b) h k =
      absurd
      (brackets_differ b a (omega (arith, h.first (StrayClose b) k.has, k.first (TooDeep a) h.has))
      (stray_holds b k.has.here) (deep_holds a h.has.here))
  fault-only (TooDeep a) (TooDeep b) h k =
      ap TooDeep (omega (arith, h.first (TooDeep b) k.has, k.first (TooDeep a) h.has))
  fault-only (TooDeep a) (Unclosed b) h k = absurd (k.first (TooDeep a) h.has)
  fault-only (Unclosed a) (BadByte b) h k = absurd (h.first (BadByte b) k.has)
  fault-only (Unclosed a) (StrayClose b) h k = absurd (h.first (StrayClose b) k.has)
  fault-only (Unclosed a) (TooDeep b) h k = absurd (h.first (TooDeep b) k.has)
  fault-only (Unclosed a) (Unclosed b) h k =
      ap Unclosed (omega (arith, h.has.least b k.has.here, k.has.least a h.has.here))
