-- Typed lists: a test of borrowed names.
use Rattle.std.proofs.Common.{◌≡◌, ℕ, ◌||◌, List, [], ◌∷◌, refl, ap, Bor}
use Rattle.std.specs.List.{list_any}
use Rattle.std.specs.Str.{bytes_eq}
use Rattle.pl_names.specs.Names.{texts}

-- a test of names that are borrowed is one of their bytes
pub any-texts : (name : List ℕ) (words : List (Bor (List ℕ))) →
    list_any (bytes_eq name) (texts words) ≡ list_any (λ (w : Bor (List ℕ)). bytes_eq name w.now) words
any-texts name [] = refl
any-texts name (w ∷ words) = ap (λ b. bytes_eq name w.now || b) (any-texts name words)
