-- The values that stand at the places of classes.
use Rattle.std.proofs.Common.{◌≡◌, ◌==◌, ◌<◌, ℕ, suc, Bool, true, false, cond, List, [], ◌∷◌, map, take}
use Rattle.std.proofs.Common.{slice_index, All, Contains, refl, sym, ap, ◌∙◌, inl, inr}
use Rattle.std.proofs.lemmas.Bool.Decides.{Decides-eqb}
use Rattle.std.proofs.lemmas.List.{get_or-take}
use Rattle.std.proofs.lemmas.List.Elements.{All-head, All-tail}
use Rattle.pl_rows.proofs.Canonical.{Contains-nil, Contains-cons_cases}
use Rattle.pl_join.specs.Relation.{Assignment}
use Rattle.pl_reduce.specs.Layout.{place_in}
use Rattle.pl_reduce.proofs.Places.{place_first}
use Rattle.pl_cursor.specs.Answers.{key_of}

-- the value at the place of a class is the class's
pub value_at_place : (classes : List ℕ) (f : Assignment) (c : ℕ) → Contains classes c
    → slice_index (map f classes) (place_in classes c) ≡ f c
value_at_place [] f c h = absurd (Contains-nil c h)
value_at_place (k ∷ ks) f c h = elim (Contains-cons_cases k ks c h) [
  | inl e ↦ rw (← e) (ap (slice_index (map f (k ∷ ks))) (place_first k ks))
  | inr m ↦ step (k == c) refl (value_at_place ks f c m)
]
  where
    step : (b : Bool) → (k == c) ≡ b → slice_index (map f ks) (place_in ks c) ≡ f c
        → slice_index (map f (k ∷ ks)) (cond b 0 (suc (place_in ks c))) ≡ f c
    step true e h = ap f ((Decides-eqb k c).0 e)
    step false e h = h

-- the values at the places of classes, where these are among the first ones of the answer
pub key_read : (classes places answer : List ℕ) (from : ℕ) (keys : List ℕ)
    → All (λ c. slice_index places c ≡ place_in classes c) keys
    → All (λ k. k < from) (map (place_in classes) keys)
    → map (λ c. slice_index answer (slice_index places c)) keys ≡ key_of (map (place_in classes) keys)
    (take from answer)
key_read classes places answer from [] h l = refl
key_read classes places answer from (c ∷ keys) h l =
    let early : place_in classes c < from = All-head (λ k. k < from) (place_in classes c)
    (map (place_in classes) keys) l in
    let there : slice_index places c ≡ place_in classes c =
    All-head (λ c. slice_index places c ≡ place_in classes c) c keys h in
    let here : slice_index answer (slice_index places c) ≡ slice_index (take from answer)
    (place_in classes c) =
    ap (slice_index answer) there ∙ sym (get_or-take from answer (place_in classes c) 0 early) in
    let others = key_read classes places answer from keys
    (All-tail (λ c. slice_index places c ≡ place_in classes c) c keys h)
    (All-tail (λ k. k < from) (place_in classes c) (map (place_in classes) keys) l) in
    λ i. here i ∷ others i
