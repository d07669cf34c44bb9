-- Folding a word a second time changes nothing.
use Rattle.std.proofs.Common.{◌≡◌, ℕ, List, [], ◌∷◌, refl, ap, ◌∙◌, arith}
use Rattle.std.proofs.lemmas.Bool.Decides.{nat_tests}
use Rattle.pl_text.specs.Words.{folded_byte, folded}

folded_byte-folded : (b : ℕ) → folded_byte (folded_byte b) ≡ folded_byte b
folded_byte-folded b = grind (arith, nat_tests)

pub folded-folded : (word : List ℕ) → folded (folded word) ≡ folded word
folded-folded [] = refl
folded-folded (b ∷ word) = ap (λ b. b ∷ folded (folded word)) (folded_byte-folded b) ∙
    ap (λ rest. folded_byte b ∷ rest) (folded-folded word)
