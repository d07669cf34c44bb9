-- The first edge that holds all of some classes, as a place in the list of edges.
use Rattle.std.proofs.Common.{◌≡◌, ◌==◌, ℕ, zero, suc, ◌+◌, ◌<◌, ◌≤◌, List, [], ◌∷◌, length, get_or, refl}
use Rattle.std.proofs.Common.{sym, ap, ◌∙◌, arith, Bool, true, false, Some, None, Option, eq-eqb, eqb-true}
use Rattle.std.specs.Prelude.{bit_and, IfSome, IfNone}
use Rattle.std.specs.List.{position_from}
use Rattle.std.proofs.lemmas.Bool.{cond-true, cond-false}
use Rattle.pl_hyper.specs.Edges.{edge_numbers}
use Rattle.pl_hyper.specs.Search.{IsParent, IsFirstParent}
use Rattle.pl_hyper.specs.Holders.{AreHolders}
use Rattle.pl_hyper.proofs.Members.{range_contains, within_range}
use Rattle.pl_hyper.proofs.Bits.{and_within}

abbrev pub holds_all : ℕ → ℕ → Bool
holds_all classes edge = bit_and classes edge == classes

position_first : (t : ℕ → Bool) (i : ℕ) (xs : List ℕ) (k : ℕ) → k < length xs →
    t (get_or xs k 0) ≡ true → ((j : ℕ) → j < k → t (get_or xs j 0) ≡ false) →
    position_from t i xs ≡ Some (i + k)
position_first t i [] k h is before = absurd (omega arith)
position_first t i (x ∷ xs) zero h is before =
    cond-true (t x) (Some i) (position_from t (i + 1) xs) is ∙ ap Some (omega arith)
position_first t i (x ∷ xs) (suc k) h is before =
    cond-false (t x) (Some i) (position_from t (i + 1) xs) (before 0 (omega arith))
    ∙ (position_first t (i + 1) xs k (omega arith) is (λ j low. before (suc j) (omega arith))
    ∙ ap Some (omega arith))

position_none : (t : ℕ → Bool) (i : ℕ) (xs : List ℕ) →
    ((j : ℕ) → j < length xs → t (get_or xs j 0) ≡ false) → position_from t i xs ≡ None
position_none t i [] none = refl
position_none t i (x ∷ xs) none =
    cond-false (t x) (Some i) (position_from t (i + 1) xs) (none 0 (omega arith))
    ∙ position_none t (i + 1) xs (λ j low. none (suc j) (omega arith))

-- an edge that holds the classes is a parent for a number that is no edge
parent_of_none : (edges : List ℕ) (none classes j : ℕ) → length edges ≤ none → j < length edges →
    holds_all classes (get_or edges j 0) ≡ true → IsParent edges (edge_numbers edges) none classes j
parent_of_none edges none classes j far low is = record {
  remains = range_contains (length edges) j low;
  apart = λ e. omega arith;
  serves = (and_within classes (get_or edges j 0)).0 (eqb-true _ _ is);
}

unless : (b : Bool) → (b ≡ true → ⊥) → b ≡ false
unless true n = absurd (n refl)
unless false n = refl

pub found_first : (edges words present : List ℕ) (none classes : ℕ) (result : Option ℕ) →
    length edges ≤ none → AreHolders edges (edge_numbers edges) words present →
    ((es remaining : List ℕ) → AreHolders es remaining words present →
    IfSome result (IsFirstParent es remaining none classes)) →
    ((es remaining : List ℕ) → AreHolders es remaining words present →
    IfNone result ((f : ℕ) → IsParent es remaining none classes f → ⊥)) →
    result ≡ position_from (holds_all classes) 0 edges
found_first edges words present none classes (Some f) far a first empty =
    let found : IsFirstParent edges (edge_numbers edges) none classes f =
    first edges (edge_numbers edges) a in
    let low = within_range (length edges) f found.is_parent.remains in
    sym (position_first (holds_all classes) 0 edges f low
    (eq-eqb _ _ ((and_within classes (get_or edges f 0)).1 found.is_parent.serves))
    (λ j less. unless (holds_all classes (get_or edges j 0))
    (λ is. (let least = found.least j (parent_of_none edges none classes j far (omega arith) is) in
    omega arith)))
    ∙ ap Some (omega arith))
found_first edges words present none classes None far a first empty =
    sym (position_none (holds_all classes) 0 edges (λ j low. unless (holds_all classes (get_or edges j 0))
    (λ is. empty edges (edge_numbers edges) a j (parent_of_none edges none classes j far low is))))
