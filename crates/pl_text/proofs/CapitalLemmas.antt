-- Words without a capital letter.
use Rattle.std.proofs.Common.{◌≡◌, ℕ, ◌+◌, ◌<◌, Bool, true, false, ◌||◌, List, [], ◌∷◌, ◌++◌, take, length}
use Rattle.std.proofs.Common.{get_or, refl, sym, ap, ◌∙◌}
use Rattle.std.proofs.lemmas.List.{take_more}
use Rattle.std.proofs.lemmas.List.Folds.{list_any-append}
use Rattle.std.specs.List.{list_any}
use Rattle.std.proofs.lemmas.Bool.{or_parts}
use Rattle.pl_text.specs.Words.{is_capital, folded_byte, folded}

folded_byte-small : (b : ℕ) → is_capital b ≡ false → folded_byte b ≡ b
folded_byte-small b h = rw h refl

-- such a word is its own small form
pub folded-small : (word : List ℕ) → list_any is_capital word ≡ false → folded word ≡ word
folded-small [] h = refl
folded-small (b ∷ word) h =
    let parts = or_parts (is_capital b) (list_any is_capital word) h in
    λ i. folded_byte-small b parts.0 i ∷ folded-small word parts.1 i

bits_more : (s b : Bool) → (s || b) ≡ (s || (b || false))
bits_more true b = refl
bits_more false true = refl
bits_more false false = refl

-- one byte more is looked at
pub capital_more : (word : List ℕ) (i : ℕ) (found is : Bool) → i < length word →
    found ≡ list_any is_capital (take i word) →
    is ≡ is_capital (get_or word i 0) → (found || is) ≡ list_any is_capital (take (i + 1) word)
capital_more word i found is within held here =
    ap (λ s. s || is) held ∙ ap (λ b. list_any is_capital (take i word) || b) here ∙
    bits_more (list_any is_capital (take i word)) (is_capital (get_or word i 0)) ∙
    sym (list_any-append is_capital (take i word) (get_or word i 0 ∷ [])) ∙
    ap (list_any is_capital) (sym (take_more word i 0 within))
