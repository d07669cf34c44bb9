-- Filters that keep no member of a list, or all.
use Rattle.std.proofs.Common.{◌≡◌, Bool, true, false, cond, List, [], ◌∷◌, filter, Contains, refl, ap, ◌∙◌}
use Rattle.pl_rows.proofs.Canonical.{Contains-cons_first, Contains-cons_rest}

pub filter_none : {X : Type 0} (p : X → Bool) (xs : List X) → ((x : X) → Contains xs x → p x ≡ false) →
    filter p xs ≡ []
filter_none p [] h = refl
filter_none p (x ∷ xs) h =
    ap (λ b. cond b (x ∷ filter p xs) (filter p xs)) (h x (Contains-cons_first x xs))
    ∙ filter_none p xs (λ y c. h y (Contains-cons_rest x xs y c))

pub filter_whole : {X : Type 0} (p : X → Bool) (xs : List X) → ((x : X) → Contains xs x → p x ≡ true) →
    filter p xs ≡ xs
filter_whole p [] h = refl
filter_whole p (x ∷ xs) h =
    ap (λ b. cond b (x ∷ filter p xs) (filter p xs)) (h x (Contains-cons_first x xs))
    ∙ ap (λ ys. x ∷ ys) (filter_whole p xs (λ y c. h y (Contains-cons_rest x xs y c)))
