-- The ranges of the rows that begin with two values: what the map of them tells, and how it grows.
use Rattle.std.proofs.Common.{◌≡◌, ◌^◌, ◌<◌, ◌≤◌, ℕ, Bool, true, false, List, [], ◌∷◌, length, get_or, refl}
use Rattle.std.proofs.Common.{sym, ap, ◌∙◌, subst, inl, inr, arith, cond, Option, Some, None, nat_eq, IfSome}
use Rattle.std.proofs.lemmas.Bool.{false≢true}
use Rattle.std.proofs.lemmas.Bool.Decides.{nat_tests, eqb_tells}
use Rattle.indexmap.specs.IndexMap.{IndexMap, get}
use Rattle.pl_rows.specs.declared.range.Range.{Range}
use Rattle.pl_rows.specs.Layout.{comes_before, IsBracket, IsFound, pair_number, AreRangesOfPairs}

-- what comes before two values comes before each key that begins with them
before_pair : (or_equal : Bool) (a b : ℕ) (rest row : List ℕ) → comes_before false (a ∷ b ∷ []) row ≡ true →
    comes_before or_equal (a ∷ b ∷ rest) row ≡ true
before_pair true a b rest [] h = refl
before_pair false a b rest [] h = refl
before_pair true a b rest (x ∷ []) h = grind (arith, nat_tests)
before_pair false a b rest (x ∷ []) h = grind (arith, nat_tests)
before_pair true a b rest (x ∷ (y ∷ row)) h = grind (arith, nat_tests)
before_pair false a b rest (x ∷ (y ∷ row)) h = grind (arith, nat_tests)

-- what is above two values comes before no key that begins with them
above_pair : (or_equal : Bool) (a b : ℕ) (rest row : List ℕ) → comes_before true (a ∷ b ∷ []) row ≡ false →
    comes_before or_equal (a ∷ b ∷ rest) row ≡ false
above_pair or_equal a b rest [] h = absurd (false≢true (sym h))
above_pair true a b rest (x ∷ []) h = grind (arith, nat_tests)
above_pair false a b rest (x ∷ []) h = grind (arith, nat_tests)
above_pair true a b rest (x ∷ (y ∷ row)) h = grind (arith, nat_tests)
above_pair false a b rest (x ∷ (y ∷ row)) h = grind (arith, nat_tests)

-- the rows that begin with a key's first two values are a bracket for the key
pub pair_bracketed : (key : List ℕ) (rows : List (List ℕ)) (from to : ℕ) → 2 ≤ length key →
    IsFound (get_or key 0 0 ∷ get_or key 1 0 ∷ []) rows from to → IsBracket key rows from to
pair_bracketed [] rows from to l f = absurd (omega arith)
pair_bracketed (a ∷ []) rows from to l f = absurd (omega arith)
pair_bracketed (a ∷ (b ∷ rest)) rows from to l f = record {
  in_order = f.in_order;
  within = f.within;
  below = record {
    before = λ i k. before_pair false a b rest _ (f.below.before i k);
    after = λ i k m. above_pair false a b rest _ (f.at_most.after i k m);
  };
  at_most = record {
    before = λ i k. before_pair true a b rest _ (f.below.before i k);
    after = λ i k m. above_pair true a b rest _ (f.at_most.after i k m);
  };
}

-- an empty map has no range
pub no_ranges : {S : Type 0} (rows : List (List ℕ)) (pairs : IndexMap ℕ Range S) → pairs.entries ≡ [] →
    AreRangesOfPairs rows pairs
no_ranges rows pairs e first second l range h = cc

-- two values are told from others by their number
pair_number-injective : (a b c d : ℕ) → b < 2 ^ 32 → d < 2 ^ 32 → pair_number a b ≡ pair_number c d →
    (a ≡ c) × (b ≡ d)
pair_number-injective a b c d l m e = (omega arith, omega arith)

some_range : (a b : Range) → Some a ≡ Some b → a ≡ b
some_range a b e = cc

-- one more range
pub one_more_range : {S : Type 0} (rows : List (List ℕ)) (old new : IndexMap ℕ Range S) (a b : ℕ)
    (added : Range) → b < 2 ^ 32 → IsFound (a ∷ b ∷ []) rows added.from added.to → AreRangesOfPairs rows old →
    ((q : ℕ) → get nat_eq new q ≡ cond (nat_eq (pair_number a b) q) (Some added) (get nat_eq old q)) →
    AreRangesOfPairs rows new
one_more_range rows old new a b added m found kept update first second l range h =
    elim (eqb_tells (pair_number a b) (pair_number first second)) [
      | inl (t, e) ↦ (
          let here : get nat_eq new (pair_number first second) ≡ Some added =
          update (pair_number first second) ∙
          ap (λ c. cond c (Some added) (get nat_eq old (pair_number first second))) t in
          let same : added ≡ range = some_range added range (sym here ∙ h) in
          let (e0, e1) = pair_number-injective a b first second m l e in
          let moved : IsFound (first ∷ second ∷ []) rows added.from added.to =
          subst (λ x. IsFound (x ∷ second ∷ []) rows added.from added.to) e0
          (subst (λ y. IsFound (a ∷ y ∷ []) rows added.from added.to) e1 found) in
          subst (λ (r : Range). IsFound (first ∷ second ∷ []) rows r.from r.to) same moved)
      | inr (t, e) ↦ (
          let here : get nat_eq new (pair_number first second) ≡ get nat_eq old (pair_number first second) =
          update (pair_number first second) ∙
          ap (λ c. cond c (Some added) (get nat_eq old (pair_number first second))) t in
          kept first second l range (sym here ∙ h))
    ]

-- what a look-up gives is a bracket
pub looked_up : {S : Type 0} (rows : List (List ℕ)) (pairs : IndexMap ℕ Range S) (key : List ℕ)
    (result : Option Range) → 2 ≤ length key → get_or key 1 0 < 2 ^ 32 → AreRangesOfPairs rows pairs →
    result ≡ get nat_eq pairs (pair_number (get_or key 0 0) (get_or key 1 0)) →
    IfSome result (λ range. IsBracket key rows range.from range.to)
looked_up rows pairs key None l m are e = record {}
looked_up rows pairs key (Some range) l m are e = pair_bracketed key rows range.from range.to l
    (are (get_or key 0 0) (get_or key 1 0) m range (sym e))
