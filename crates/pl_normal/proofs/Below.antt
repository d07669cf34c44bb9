-- Literals whose parameters are below a number, from their terms.
use Rattle.std.proofs.Common.{◌≡◌, ℕ, [], ◌∷◌, All, subst}
use Rattle.std.proofs.lemmas.List.Elements.{All-head, All-tail}
use Rattle.pl_task.specs.declared.data.Lifted.{Lifted}
use Rattle.pl_task.specs.declared.data.Literal.TheVariants as literal
use Rattle.pl_task.specs.declared.data.Term.{Term}
use Rattle.pl_normal.specs.Scope.{IsTermBelow, IsLiteralBelow}

pub atom_below : (n : ℕ) (a : Lifted) → All (IsTermBelow n) a.terms → IsLiteralBelow n (literal.Atom a)
atom_below n a h = record {
  atom = λ b e. (let same : a ≡ b = cc in subst (λ (x : Lifted). All (IsTermBelow n) x.terms) same h);
  not_atom = λ b e. absurd (cc);
  equal_left = λ x y e. absurd (cc);
  equal_right = λ x y e. absurd (cc);
  not_equal_left = λ x y e. absurd (cc);
  not_equal_right = λ x y e. absurd (cc);
}

pub not_atom_below : (n : ℕ) (a : Lifted) → All (IsTermBelow n) a.terms → IsLiteralBelow n (literal.NotAtom a)
not_atom_below n a h = record {
  atom = λ b e. absurd (cc);
  not_atom = λ b e. (let same : a ≡ b = cc in subst (λ (x : Lifted). All (IsTermBelow n) x.terms) same h);
  equal_left = λ x y e. absurd (cc);
  equal_right = λ x y e. absurd (cc);
  not_equal_left = λ x y e. absurd (cc);
  not_equal_right = λ x y e. absurd (cc);
}

pub equal_below : (n : ℕ) (a b : Term) → All (IsTermBelow n) (a ∷ b ∷ [])
    → IsLiteralBelow n (literal.Equal a b)
equal_below n a b h = record {
  atom = λ c e. absurd (cc);
  not_atom = λ c e. absurd (cc);
  equal_left = λ x y e.
      (let same : a ≡ x = cc in subst (IsTermBelow n) same (All-head (IsTermBelow n) a (b ∷ []) h));
  equal_right = λ x y e.
      (let same : b ≡ y = cc in subst (IsTermBelow n) same
      (All-head (IsTermBelow n) b [] (All-tail (IsTermBelow n) a (b ∷ []) h)));
  not_equal_left = λ x y e. absurd (cc);
  not_equal_right = λ x y e. absurd (cc);
}

pub not_equal_below : (n : ℕ) (a b : Term) → All (IsTermBelow n) (a ∷ b ∷ [])
    → IsLiteralBelow n (literal.NotEqual a b)
not_equal_below n a b h = record {
  atom = λ c e. absurd (cc);
  not_atom = λ c e. absurd (cc);
  equal_left = λ x y e. absurd (cc);
  equal_right = λ x y e. absurd (cc);
  not_equal_left = λ x y e.
      (let same : a ≡ x = cc in subst (IsTermBelow n) same (All-head (IsTermBelow n) a (b ∷ []) h));
  not_equal_right = λ x y e.
      (let same : b ≡ y = cc in subst (IsTermBelow n) same
      (All-head (IsTermBelow n) b [] (All-tail (IsTermBelow n) a (b ∷ []) h)));
}
