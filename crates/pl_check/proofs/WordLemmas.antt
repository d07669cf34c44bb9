-- Words among borrowed words.
use Rattle.std.proofs.Common.{◌≡◌, ℕ, Bool, ◌||◌, List, [], ◌∷◌, refl, ap}
use Rattle.std.specs.Prelude.{bytes_eq}
use Rattle.std.specs.Borrow.{Bor}
use Rattle.std.specs.List.{list_any}
use Rattle.pl_names.specs.Names.{texts}

-- a word is among borrowed words where it is among their bytes
pub any_texts : (word : List ℕ) (words : List (Bor (List ℕ))) →
    list_any (λ (w : Bor (List ℕ)). bytes_eq word w.now) words ≡ list_any (bytes_eq word) (texts words)
any_texts word [] = refl
any_texts word (w ∷ words) = ap (λ b. bytes_eq word w.now || b) (any_texts word words)
