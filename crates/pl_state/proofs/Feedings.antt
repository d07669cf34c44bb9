-- The words that a state feeds a hasher, taken off the front.
use Rattle.std.proofs.Common.{◌≡◌, ◌<◌, ◌≤◌, ℕ, List, [], ◌∷◌, length, drop, get_or, refl, sym, ap, ◌∙◌}
use Rattle.std.proofs.Common.{arith}
use Rattle.std.specs.Hash as fed
use Rattle.std.specs.List.{flat_map, fold}
use Rattle.pl_state.specs.Feeding.{four_words, fed_fours}

-- the first four words, and then the others
pub four_fed : {S : Type 0} (write : S → List ℕ → S) (s t : S) (words left : List ℕ) (n : ℕ) →
    4 ≤ length words → n ≡ four_words (get_or words 0 0) (get_or words 1 0) (get_or words 2 0)
    (get_or words 3 0) →
    t ≡ fold write s (fed.u128 n) → left ≡ drop 4 words →
    fold write s (fed_fours words) ≡ fold write t (fed_fours left)
four_fed write s t [] left n long is fed_one rest = absurd (omega arith)
four_fed write s t (x ∷ []) left n long is fed_one rest = absurd (omega arith)
four_fed write s t (x ∷ y ∷ []) left n long is fed_one rest = absurd (omega arith)
four_fed write s t (x ∷ y ∷ z ∷ []) left n long is fed_one rest = absurd (omega arith)
four_fed write s t (x ∷ y ∷ z ∷ v ∷ words) left n long is fed_one rest =
    ap (λ m. fold write (fold write s (fed.u128 m)) (fed_fours words)) (sym is) ∙
    ap (λ state. fold write state (fed_fours words)) (sym fed_one) ∙
    ap (λ w. fold write t (fed_fours w)) (sym rest)

-- fewer than four words are fed one by one
pub few_fed : (words : List ℕ) → length words < 4 → flat_map fed.u32 words ≡ fed_fours words
few_fed [] few = refl
few_fed (x ∷ []) few = refl
few_fed (x ∷ y ∷ []) few = refl
few_fed (x ∷ y ∷ z ∷ []) few = refl
few_fed (x ∷ y ∷ z ∷ v ∷ words) few = absurd (omega arith)
