-- The search for the relation that is joined next.
use Rattle.std.proofs.Common.{◌≡◌, ◌+◌, ◌<◌, ℕ, false, List, length, map, get_or, below_more, sym, ap, ◌∙◌}
use Rattle.std.proofs.Common.{arith}
use Rattle.std.proofs.lemmas.List.{get_or-map, length-map}
use Rattle.pl_join.specs.Relation.{ClassRows}
use Rattle.pl_kernel.specs.Joining.{share_class}

-- the relation at a place shares no class with these either
pub unshared_more : {X : Type 0} (value : X → ClassRows) (classes : List ℕ) (left : List X) (place : ℕ)
    (x : X) → place < length left → x ≡ get_or left place x → share_class classes (value x) ≡ false
    → ((k : ℕ) (d : ClassRows) → k < place → share_class classes (get_or (map value left) k d) ≡ false)
    → (k : ℕ) (d : ClassRows) → k < place + 1 → share_class classes (get_or (map value left) k d) ≡ false
unshared_more value classes left place x within is unshared so_far k d h =
    let here : (e : ClassRows) → share_class classes (get_or (map value left) place e) ≡ false =
    λ e. ap (share_class classes) (get_or-map value left place x e within ∙ ap value (sym is)) ∙ unshared in
    below_more (λ j. (e : ClassRows) → share_class classes (get_or (map value left) j e) ≡ false) place
    (λ j l e. so_far j e l) here k h d

-- a place among the relations is one among the references to them
pub place_within : {X : Type 0} (value : X → ClassRows) (left slice : List X) (place : ℕ) → slice ≡ left
    → place < length (map value slice) → place < length left
place_within value left slice place e h = omega (arith, length-map slice value, ap length e)
