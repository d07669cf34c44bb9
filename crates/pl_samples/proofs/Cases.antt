-- The atoms of cases, made one by one.
use Rattle.std.proofs.Common.{◌≡◌, ◌+◌, ℕ, ◌<◌, List, [], ◌∷◌, ◌++◌, map, take, get_or, All, length, sym}
use Rattle.std.proofs.Common.{subst, ◌∙◌}
use Rattle.std.specs.Borrow.{Bor}
use Rattle.std.proofs.lemmas.List.{map_more}
use Rattle.std.proofs.lemmas.List.Elements.{All-push}
use Rattle.pl_task.specs.declared.data.Atom.{Atom}
use Rattle.pl_task.specs.declared.task.Task.{Task}
use Rattle.pl_task.specs.WellFormed.{IsAtomOf}
use Rattle.pl_samples.specs.Places.{case_atom}

-- what is made of the first `i` cases: atoms of the task, and all of theirs where each case is one
pub record IsMade (task : Task) (cases : List (ℕ × Bor (List ℕ))) (i : ℕ) (made : List Atom) : Type 0 where
  pub within : All (IsAtomOf task.objects task.predicates) made
  pub all : All (λ case. IsAtomOf task.objects task.predicates (case_atom case)) cases →
      made ≡ map case_atom (take i cases)

-- the next case is an atom of the task, which is added
pub one_more : (task : Task) (cases : List (ℕ × Bor (List ℕ))) (i : ℕ) (d : ℕ × Bor (List ℕ)) (a : Atom)
    (before after : List Atom) → i < length cases →
    IsAtomOf task.objects task.predicates (case_atom (get_or cases i d)) →
    a ≡ case_atom (get_or cases i d) → IsMade task cases i before → after ≡ before ++ a ∷ [] →
    IsMade task cases (i + 1) after
one_more task cases i d a before after l fits is so_far more = record {
  within = subst (All P) (sym more)
      (All-push P before a so_far.within (subst P (sym is) fits));
  all = λ each. more ∙ (λ k. so_far.all each k ++ is k ∷ []) ∙ sym (map_more case_atom cases i d l);
}
  where
    P : Atom → Type 0
    P = IsAtomOf task.objects task.predicates

-- it is none, so not each case is one
pub none_more : (task : Task) (cases : List (ℕ × Bor (List ℕ))) (i : ℕ) (d : ℕ × Bor (List ℕ))
    (before after : List Atom) → i < length cases →
    (IsAtomOf task.objects task.predicates (case_atom (get_or cases i d)) → ⊥) →
    IsMade task cases i before → after ≡ before → IsMade task cases (i + 1) after
none_more task cases i d before after l not so_far same = record {
  within = subst (All (IsAtomOf task.objects task.predicates)) (sym same) so_far.within;
  all = λ each. absurd (not (each i d l));
}
