-- Members of lists, as the crates below have them, and whether all members of a list pass a test.
use Rattle.std.proofs.Common.{◌⊎◌, List, [], ◌∷◌, All, Contains, inl, inr}
use Rattle.std.proofs.lemmas.List.Elements.{All-nil, All-cons, All-contains}
pub use Rattle.pl_rows.proofs.Canonical.{Contains-nil, Contains-cons_cases, Contains-cons_first}
pub use Rattle.pl_rows.proofs.Canonical.{Contains-cons_rest}
pub use Rattle.pl_join.proofs.Members.{Contains-map, Contains-from_map as Contains-map_cases}
pub use Rattle.pl_join.proofs.Members.{Contains-from_filter}

-- where it is decided of each member, all pass, or one does not
pub all_or_one_not : {X : Type 0} (P : X → Type 0) (xs : List X) →
    ((x : X) → Contains xs x → P x ⊎ (P x → ⊥)) → All P xs ⊎ ((x : X) × Contains xs x × (P x → ⊥))
all_or_one_not P [] decide = inl (All-nil P)
all_or_one_not P (x ∷ xs) decide = elim (decide x (Contains-cons_first x xs)) [
  | inr fails ↦ inr (x, Contains-cons_first x xs, fails)
  | inl here ↦ elim (all_or_one_not P xs (λ y has. decide y (Contains-cons_rest x xs y has))) [
    | inl rest ↦ inl (All-cons P x xs here rest)
    | inr out ↦ (let (y, has, fails) = out in inr (y, Contains-cons_rest x xs y has, fails))
  ]
]

pub all_or_not : {X : Type 0} (P : X → Type 0) (xs : List X) → ((x : X) → Contains xs x → P x ⊎ (P x → ⊥)) →
    All P xs ⊎ (All P xs → ⊥)
all_or_not P xs decide = elim (all_or_one_not P xs decide) [
  | inl all ↦ inl all
  | inr out ↦ (let (x, has, fails) = out in inr (λ all. fails (All-contains P xs x all has)))
]
