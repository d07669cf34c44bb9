-- How the record of a search by number grows: turn by turn, and in a turn pair by pair. It is a search by
-- rank in which all ranks are equal, so each step of the loop of such a search, and each of its endings, is
-- one of those by rank.
use Rattle.std.proofs.Common.{◌≡◌, ◌⊎◌, ◌<◌, ◌≤◌, ℕ, zero, suc, IsTrue, IsFalse, List, [], ◌∷◌, ◌++◌, map}
use Rattle.std.proofs.Common.{length, slice_index, Contains, refl, sym, ap, ◌∙◌, subst, inl, inr}
use Rattle.std.proofs.Common.{arith, length-append}
use Rattle.std.proofs.lemmas.List.{get_or_append_left, get_or_at, get_or_default}
use Rattle.pl_task.specs.Instance.{Instance}
use Rattle.pl_task.specs.States.{State}
use Rattle.pl_registry.specs.StateSpace.{StateSpace}
use Rattle.pl_registry.specs.SearchRecord.{SearchRecord, entry_at, states_of, path_of, pair_by, all_pairs}
use Rattle.pl_registry.specs.Ending.{record_at_once, stats_of, by_number, IsFoundAt, IsFull}
use Rattle.pl_registry.specs.Ending.{IsClosed}
use Rattle.pl_registry.specs.Held.{turns, with_turn, with_pair, with_new, pair_in, IsBetweenTurns, IsInTurn}
use Rattle.pl_registry.specs.HeldByRank.{IsBetweenRanked, IsInRanked}
use Rattle.pl_registry.proofs.Turns.{within_or_past}
use Rattle.pl_registry.proofs.Entries.{expanded_registered}
use Rattle.pl_registry.proofs.ByRank as ranked

pub turns_long : (n : ℕ) → length (turns n) ≡ n
turns_long zero = refl
turns_long (suc n) = let rest = turns_long n in let both = length-append (turns n) (n ∷ []) in
    omega (arith, rest, both)

pub turns_read : (n j : ℕ) → j < n → slice_index (turns n) j ≡ j
turns_read zero j l = absurd (omega arith)
turns_read (suc n) j l = elim (within_or_past j n) [
  | inl less ↦ get_or_append_left (turns n) (n ∷ []) 0 j
      (let many = turns_long n in omega (arith, many, less)) ∙ turns_read n j less
  | inr past ↦ (let e : n ≡ j = omega arith in get_or_at (turns n) n [] 0 j (turns_long n ∙ e) ∙ e)
]

-- the turns below n are those of the entries below n
turn_before : (n i : ℕ) → i < n → Contains (turns n) i
turn_before n i l = (
  i,
  (let many = turns_long n in omega (arith, many, l)),
  get_or_default (turns n) i i 0 (let many = turns_long n in omega (arith, many, l)) ∙ turns_read n i l,
)

turn_below : (n i : ℕ) → Contains (turns n) i → i < n
turn_below n i (k, l, e) =
    let many = turns_long n in
    let under : k < n = omega (arith, many, l) in
    let read : i ≡ k = sym e ∙ get_or_default (turns n) k i 0 l ∙ turns_read n k under in
    omega (arith, read, under)

module _ {space : StateSpace} {D K : List State → State → Type 0} {t : ℕ} where
  by_rank : {r : SearchRecord} → IsBetweenTurns space D K t r →
      IsBetweenRanked space D K by_number (turns t) r
  by_rank b = record { stands = b.stands; turns_are = b.turns_are; pairs_are = b.pairs_are }

  in_by_rank : {left : List Instance} {r : SearchRecord} → IsInTurn space D K t left r →
      IsInRanked space D K by_number (turns t) t left r
  in_by_rank {left} {r} h = record {
    stands = h.stands;
    turns_are = h.turns_are;
    pairs_are = subst (λ n. all_pairs space r ≡ r.pairs ++ map (pair_by space r.entries n t) left)
        (sym (turns_long t)) h.pairs_are;
  }

  from_rank : {left : List Instance} {r : SearchRecord} →
      IsInRanked space D K by_number (turns t) t left r → IsInTurn space D K t left r
  from_rank {left} {r} h = record {
    stands = h.stands;
    turns_are = h.turns_are;
    pairs_are = subst (λ n. all_pairs space r ≡ r.pairs ++ map (pair_by space r.entries n t) left)
        (turns_long t) h.pairs_are;
  }

-- the record of a search that has not expanded a state
pub at_once : (space : StateSpace) (D K : List State → State → Type 0)
    → IsBetweenTurns space D K 0 (record_at_once space)
at_once space D K = let b = ranked.at_once space D K by_number in
    record { stands = b.stands; turns_are = b.turns_are; pairs_are = b.pairs_are }

module _ {space : StateSpace} {D K : List State → State → Type 0} {t : ℕ} {r : SearchRecord} where
  -- the turn of the next entry begins
  pub next_turn : IsBetweenTurns space D K t r → t < length r.entries
      → IsInTurn space D K t (space.steps (entry_at r.entries t).state) (with_turn r t)
  next_turn b l = from_rank (ranked.next_turn t (by_rank b) l
      (λ has. (let under = turn_below t t has in absurd (omega (arith, under))))
      (λ i w free. inr (refl, least i free (within_or_past i t))))
    where
      least : (i : ℕ) → (Contains (turns t) i → ⊥) → (i < t) ⊎ (t ≤ i) → t ≤ i
      least i free (inl less) = absurd (free (turn_before t i less))
      least i free (inr past) = past

  -- a turn in which no step is left is over
  pub turn_over : IsInTurn space D K t [] r → IsBetweenTurns space D K (suc t) r
  turn_over h = let b = ranked.turn_over t (in_by_rank h) in
      record { stands = b.stands; turns_are = b.turns_are; pairs_are = b.pairs_are }

  -- where every entry was expanded, the record is closed
  pub closed_at : IsBetweenTurns space D K t r → t ≡ length r.entries
      → IsClosed space r (stats_of (length r.entries) t (length r.pairs))
  closed_at b e = subst (λ n. IsClosed space r (stats_of (length r.entries) n (length r.pairs)))
      (turns_long t)
      (ranked.closed_at (by_rank b) (turns_long t ∙ e) (λ i l. turn_before t i (omega (arith, e, l))))

  -- the entry of a turn is registered
  pub turn_is_there : {left : List Instance} → IsInTurn space D K t left r → t < length r.entries
  turn_is_there h = ranked.turn_is_there (in_by_rank h)

  -- before a turn the entries below were registered
  pub turns_fit : IsBetweenTurns space D K t r → t ≤ length r.entries
  turns_fit b = elim (within_or_past (length r.entries) t) [
    | inl more ↦ (
        let many = ap length b.turns_are ∙ turns_long t in
        let there = expanded_registered b.stands (length r.entries) (omega (arith, many, more)) in
        let read = ap (λ xs. slice_index xs (length r.entries)) b.turns_are
        ∙ turns_read t (length r.entries) more in
        absurd (omega (arith, there, read)))
    | inr fits ↦ fits
  ]

module _ {space : StateSpace} {D K : List State → State → Type 0} {t : ℕ} {step : Instance}
    {left : List Instance} {r : SearchRecord} (h : IsInTurn space D K t (step ∷ left) r) where
  -- its target is dropped
  pub one_more_dropped : IsFalse (space.is_goal (pair_in space r t step).target)
      → D (states_of r.entries) (pair_in space r t step).target →
      IsInTurn space D K t left (with_pair r (pair_in space r t step))
  one_more_dropped no_goal dropped = from_rank (subst
      (λ n. IsInRanked space D K by_number (turns t) t left (with_pair r (pair_by space r.entries n t step)))
      (turns_long t) (ranked.one_more_dropped (in_by_rank h) no_goal dropped))

  -- its target is registered
  pub one_more_known : IsFalse (space.is_goal (pair_in space r t step).target)
      → Contains (states_of r.entries) (pair_in space r t step).target →
      IsInTurn space D K t left (with_pair r (pair_in space r t step))
  one_more_known no_goal known = from_rank (subst
      (λ n. IsInRanked space D K by_number (turns t) t left (with_pair r (pair_by space r.entries n t step)))
      (turns_long t) (ranked.one_more_known (in_by_rank h) no_goal known))

  -- its target is a new state, which is kept
  pub one_more_new : IsFalse (space.is_goal (pair_in space r t step).target)
      → (Contains (states_of r.entries) (pair_in space r t step).target → ⊥) →
      K (states_of r.entries) (pair_in space r t step).target
      → IsInTurn space D K t left (with_new r (pair_in space r t step))
  one_more_new no_goal unknown kept = from_rank (subst
      (λ n. IsInRanked space D K by_number (turns t) t left (with_new r (pair_by space r.entries n t step)))
      (turns_long t) (ranked.one_more_new (in_by_rank h) no_goal unknown kept))

  -- its target is a goal state
  pub found_at : IsTrue (space.is_goal (pair_in space r t step).target) →
      IsFoundAt space r (path_of r.entries t ++ step ∷ [])
      (stats_of (length r.entries) (suc t) (suc (length r.pairs)))
  found_at goal = subst
      (λ n. IsFoundAt space r (path_of r.entries t ++ step ∷ [])
      (stats_of (length r.entries) (suc n) (suc (length r.pairs))))
      (turns_long t) (ranked.found_at (in_by_rank h) goal)

  -- its target is a new state, which is kept, and as many states as the limit are registered
  pub full_at : {limit : ℕ} → IsFalse (space.is_goal (pair_in space r t step).target)
      → (Contains (states_of r.entries) (pair_in space r t step).target → ⊥) →
      K (states_of r.entries) (pair_in space r t step).target → length r.entries ≡ limit →
      IsFull space K limit r (stats_of (length r.entries) (suc t) (suc (length r.pairs)))
  full_at {limit} no_goal unknown kept full = subst
      (λ n. IsFull space K limit r (stats_of (length r.entries) (suc n) (suc (length r.pairs))))
      (turns_long t) (ranked.full_at (in_by_rank h) no_goal unknown kept full)
