-- What one more number adds to a text of numbered pieces, and to the seeds that were drawn.
use Rattle.std.proofs.Common.{◌≡◌, ℕ, ◌+◌, ◌++◌, ◌∷◌, [], List, refl, ap, ◌∙◌, add-one, append-nil}
use Rattle.std.proofs.Common.{append_assoc}
use Rattle.std.specs.List.{flat_map}
use Rattle.std.proofs.lemmas.List.Concat.{flat_map-append}
use Rattle.pl_task.specs.Types.{numbers_below}
use Rattle.pl_make.specs.Texts.{next_seed, seed_after}

-- the piece of the last number comes last
pub pieces_below-more : (f : ℕ → List ℕ) (i : ℕ) →
    flat_map f (numbers_below (i + 1)) ≡ flat_map f (numbers_below i) ++ f i
pieces_below-more f i = rw add-one (flat_map-append f (numbers_below i) (i ∷ []) ∙
    ap (λ t. flat_map f (numbers_below i) ++ t) (append-nil (f i)))

pub seed_after-more : (start i : ℕ) → seed_after start (i + 1) ≡ next_seed (seed_after start i)
seed_after-more start i = rw add-one refl

-- a text to which the piece of the next number was appended
pub one_more : (front text next : List ℕ) (f : ℕ → List ℕ) (i : ℕ) →
    text ≡ front ++ flat_map f (numbers_below i) → next ≡ text ++ f i →
    next ≡ front ++ flat_map f (numbers_below (i + 1))
one_more front text next f i so_far now = rw (now, so_far, pieces_below-more f i) (simp append_assoc)

-- one more piece
pub ruleset pieces = (pieces_below-more, seed_after-more)
