-- The home of a filter, found among the sets of classes of the edges.
use Rattle.std.proofs.Common.{◌≡◌, ◌==◌, ℕ, ◌+◌, Bool, cond, Option, Some, List, [], ◌∷◌, map, refl, ap, ◌∙◌}
use Rattle.std.specs.Prelude.{bit_and}
use Rattle.std.specs.List.{position_from}
use Rattle.pl_normal.specs.declared.form.Edge.{Edge}
use Rattle.pl_normal.specs.Edges.{sets_of}
use Rattle.pl_normal.specs.Filters.{has_all}

position_map : {X : Type 0} (f : X → ℕ) (t : ℕ → Bool) (i : ℕ) (xs : List X) →
    position_from t i (map f xs) ≡ position_from (λ x. t (f x)) i xs
position_map f t i [] = refl
position_map f t i (x ∷ xs) = ap (cond (t (f x)) (Some i)) (position_map f t (i + 1) xs)

pub home_among : (sets : List ℕ) (edges : List Edge) (classes : ℕ) (found : Option ℕ) →
    found ≡ position_from (λ edge. bit_and classes edge == classes) 0 sets → sets ≡ sets_of edges →
    found ≡ position_from (has_all classes) 0 edges
home_among sets edges classes found is e =
    is ∙ (ap (position_from (λ edge. bit_and classes edge == classes) 0) e
    ∙ position_map (λ (edge : Edge). edge.classes) (λ edge. bit_and classes edge == classes) 0 edges)
