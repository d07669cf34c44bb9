-- Semijoins of relations without a row, and of relations that share no class.
use Rattle.std.proofs.Common.{◌≡◌, ◌==◌, ◌↔◌, ℕ, Bool, true, false, IsTrue, List, [], ◌∷◌}
use Rattle.std.proofs.Common.{length, Contains, refl, sym, ap, ◌∙◌, subst, arith}
use Rattle.std.proofs.lemmas.Bool.{false≢true}
use Rattle.std.proofs.lemmas.Bool.Decides.{Decides-eqb}
use Rattle.pl_rows.specs.Rows.{Rows}
use Rattle.pl_rows.proofs.Canonical.{Contains-nil, Contains-cons_first}
use Rattle.pl_join.specs.Relation.{ClassRows, IsRelation, IsSemijoinOf}
use Rattle.pl_join.specs.Source.{shared_with}
use Rattle.pl_join.proofs.Assignments.{value_of, row_held, holds_none}
use Rattle.pl_join.proofs.Operations.{Contains-shared}

-- nothing is dropped from a relation that has no row
pub none_to_drop : (keep by : ClassRows) → keep.rows ≡ [] → IsSemijoinOf keep by keep
none_to_drop keep by e f = (λ h. absurd (holds_none keep f e h), λ (h, more). h)

-- and nothing is kept by one that has none
pub none_kept : (keep by kept : ClassRows) → by.rows ≡ [] → kept.rows ≡ [] → IsSemijoinOf keep by kept
none_kept keep by kept e k f =
    (λ h. absurd (holds_none kept f k h), λ (h, (g, there, agree)). absurd (holds_none by g e there))

-- where no class is shared, each row of one that has a row is as good as another
pub all_kept : (keep by : ClassRows) (row : List ℕ) → IsRelation by → Contains by.rows row
    → ((c : ℕ) → Contains by.classes c → Contains keep.classes c → ⊥) → IsSemijoinOf keep by keep
all_kept keep by row is h apart f = (
  λ held. (
    held,
    (
      value_of by.classes row,
      subst (Contains by.rows) (sym (row_held by is row h)) h,
      λ c k b. absurd (apart c b k),
    ),
  ),
  λ (held, more). held,
)

pub some_row : (rows : List (List ℕ)) → (length rows ≡ 0 → ⊥) → (row : List ℕ) × Contains rows row
some_row [] n = absurd (n (omega arith))
some_row (row ∷ rows) n = (row, Contains-cons_first row rows)

pub no_row : (rows : List (List ℕ)) → length rows ≡ 0 → rows ≡ []
no_row [] e = refl
no_row (row ∷ rows) e = absurd (omega arith)

-- no class is shared
pub none_shared : (keep by : ClassRows) → shared_with by.classes keep.classes ≡ [] → (c : ℕ)
    → Contains by.classes c → Contains keep.classes c → ⊥
none_shared keep by e c b k = Contains-nil c
    (subst (λ cs. Contains cs c) e ((Contains-shared by.classes keep.classes c).1 (b, k)))

-- the same of what the calls give: no class is chosen, and the other relation has a row
pub all_kept_by : (keep by : ClassRows) (chosen : List ℕ) (table : Rows) (none some : Bool) → IsRelation by
    → chosen ≡ shared_with by.classes keep.classes → none ≡ (length chosen == 0) → none ≡ true
    → table ≡ record { arity = length by.classes; rows = by.rows } → IsTrue some ↔ (length table.rows ≡ 0)
    → some ≡ false → IsSemijoinOf keep by keep
all_kept_by keep by chosen table none some is ec en chose et es not_empty =
    let (row, held) = some_row by.rows
    (λ e. false≢true (sym not_empty ∙ es.1 (ap (λ (t : Rows). length t.rows) et ∙ e))) in
    all_kept keep by row is held
    (none_shared keep by (sym ec ∙ no_class chosen ((Decides-eqb (length chosen) 0).0 (sym en ∙ chose))))
  where
    no_class : (xs : List ℕ) → length xs ≡ 0 → xs ≡ []
    no_class [] e = refl
    no_class (x ∷ xs) e = absurd (omega arith)

-- some class is chosen, so one is shared
pub not_apart : (keep by : ClassRows) (chosen : List ℕ) (none : Bool)
    → chosen ≡ shared_with by.classes keep.classes → none ≡ (length chosen == 0) → none ≡ false
    → ((c : ℕ) → Contains by.classes c → Contains keep.classes c → ⊥) → ⊥
not_apart keep by chosen none ec en chose apart = first chosen ec en
  where
    first : (xs : List ℕ) → xs ≡ shared_with by.classes keep.classes → none ≡ (length xs == 0) → ⊥
    first [] e m = false≢true (sym chose ∙ m)
    first (x ∷ xs) e m =
        let (b, k) = (Contains-shared by.classes keep.classes x).0
        (subst (λ cs. Contains cs x) e (Contains-cons_first x xs)) in
        apart x b k
