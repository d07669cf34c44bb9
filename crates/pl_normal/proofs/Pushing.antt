-- Lists that grow at their end: what holds of each element by its number.
use Rattle.std.proofs.Common.{◌≡◌, ℕ, ◌+◌, ◌<◌, ◌⊎◌, inl, inr, List, [], ◌∷◌, ◌++◌, length, get_or, sym, ◌∙◌}
use Rattle.std.proofs.Common.{ap, subst, arith}
use Rattle.std.proofs.Math.ListN.{get_or-append}
use Rattle.std.proofs.Math.Seq.{get_or-append_seam}

old_or_new : (k n : ℕ) → k < n + 1 → (k < n) ⊎ (k ≡ n)
old_or_new k n low = grind arith

pub each_pushed : {X : Type 0} (P : ℕ → X → Type 0) (n : ℕ) (old new : List X) (x : X) → length old ≡ n →
    ((k : ℕ) (d : X) → k < n → P k (get_or old k d)) → P n x → new ≡ old ++ x ∷ [] → (k : ℕ) (d : X) →
    k < n + 1 → P k (get_or new k d)
each_pushed P n old new x many each last e k d low = elim (old_or_new k n low) [
  | inl before ↦
      subst (P k) (sym (ap (λ xs. get_or xs k d) e ∙ get_or-append old (x ∷ []) d k
      (subst (λ c. k < c) (sym many) before))) (each k d before)
  | inr here ↦
      subst (P k) (sym (ap (λ xs. get_or xs k d) e ∙ (ap (λ j. get_or (old ++ x ∷ []) j d) (here ∙ sym many)
      ∙ get_or-append_seam old x [] d)))
      (subst (λ j. P j x) (sym here) last)
]
