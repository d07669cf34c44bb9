-- A search by number expands its entries in the order of their numbers, and so many of them as its counts
-- say.
use Rattle.std.proofs.Common.{◌≡◌, ◌⊎◌, ◌<◌, ◌≤◌, ℕ, zero, suc, List, length, slice_index, Contains, refl}
use Rattle.std.proofs.Common.{sym, ap, ◌∙◌, subst, inl, inr, arith}
use Rattle.std.proofs.lemmas.Grind.{same_number_lists}
use Rattle.std.proofs.lemmas.List.{get_or_default}
use Rattle.pl_task.specs.States.{State}
use Rattle.pl_task.specs.declared.task.Task.{Task}
use Rattle.pl_registry.specs.declared.ended.Stats.{Stats}
use Rattle.pl_registry.specs.StateSpace.{StateSpace}
use Rattle.pl_registry.specs.SearchRecord.{SearchRecord, pair_at, IsRecordUpTo}
use Rattle.pl_registry.specs.Ending.{Ending, by_number, IsAtOnce, IsClosed, IsEnding, IsWidthEnding}
use Rattle.pl_registry.specs.Ending.Ending.{Found, Unsolvable, Exhausted, Limit}
use Rattle.pl_registry.specs.Held.{turns}
use Rattle.pl_registry.proofs.Turns.{within_or_past}
use Rattle.pl_registry.proofs.Entries.{made_in-rises, expanded_registered}
use Rattle.pl_registry.proofs.ByNumber.{turns_long, turns_read}

module _ {space : StateSpace} {D K : List State → State → Type 0} {r : SearchRecord}
    (s : IsRecordUpTo space D K by_number r) where
  -- what was there before a turn with a number that is no less was there too
  early : (j i : ℕ) → j ≤ i →
      (i ≡ 0) ⊎ ((k : ℕ) × (i ≡ suc k) × (k < length s.made)
      × ((pair_at r.pairs (slice_index s.made k)).turn < j)) →
      (j ≡ 0) ⊎ ((k : ℕ) × (j ≡ suc k) × (k < length s.made)
      × ((pair_at r.pairs (slice_index s.made k)).turn < j))
  early zero i l h = inl refl
  early (suc k) i l (inl e) = absurd (omega (arith, e, l))
  early (suc k) i l (inr (m, e, w, b)) =
      let rises = made_in-rises s k m (omega (arith, e, l)) w in
      inr (k, refl, omega (arith, e, l, w), omega (arith, rises, b))

  -- where the turns before were those of the entries with their numbers, so is the next one
  turn_next : (j : ℕ) → j < length r.expanded → ((h : ℕ) → h < j → slice_index r.expanded h ≡ h)
      → slice_index r.expanded j ≡ j
  turn_next j l before =
      let here = s.in_order j l in
      let reached : j ≤ slice_index r.expanded j = elim (within_or_past (slice_index r.expanded j) j) [
        | inl less ↦ absurd
            (here.open_itself.fresh (slice_index r.expanded j) less (before (slice_index r.expanded j) less))
        | inr past ↦ past
      ] in
      elim (here.first j (record {
        early = early j (slice_index r.expanded j) reached here.open_itself.early;
        fresh = λ h less e. (let same = before h less in omega (arith, same, e, less));
      })) [
        | inl lower ↦ absurd (omega (arith, lower))
        | inr same ↦ (let least = same.1 in omega (arith, least, reached))
      ]

  turns_below : (n : ℕ) → n ≤ length r.expanded → (h : ℕ) → h < n → slice_index r.expanded h ≡ h
  turns_below zero l h less = absurd (omega arith)
  turns_below (suc n) l h less =
      let before = turns_below n (omega arith) in
      elim (within_or_past h n) [
        | inl lower ↦ before h lower
        | inr past ↦ (let e : n ≡ h = omega arith in
            subst (λ k. slice_index r.expanded k ≡ k) e (turn_next n (omega arith) before))
      ]

  -- the entries are expanded in the order of their numbers
  pub in_number : r.expanded ≡ turns (length r.expanded)
  in_number =
      same_number_lists r.expanded (turns (length r.expanded)) (sym (turns_long (length r.expanded)))
      (λ k l. turns_below (length r.expanded) (omega arith) k l ∙ sym (turns_read (length r.expanded) k l))

  pub expanded_few : length r.expanded ≤ length r.entries
  expanded_few = elim (within_or_past (length r.entries) (length r.expanded)) [
    | inl more ↦ (
        let there = expanded_registered s (length r.entries) more in
        let same = turns_below (length r.expanded) (omega arith) (length r.entries) more in
        absurd (omega (arith, there, same)))
    | inr few ↦ few
  ]

  -- where each entry was expanded, as many turns were had as there are entries
  every_turn : ((i : ℕ) → i < length r.entries → Contains r.expanded i) → length r.expanded ≡ length r.entries
  every_turn every = elim (within_or_past (length r.expanded) (length r.entries)) [
    | inl more ↦ (
        let (k, w, e) = every (length r.expanded) more in
        let read = get_or_default r.expanded k 0 _ w ∙ e in
        let same = turns_below (length r.expanded) (omega arith) k w in
        absurd (omega (arith, read, same, w)))
    | inr few ↦ omega (arith, few, expanded_few)
  ]

turns_so_many : (r : SearchRecord) (n : ℕ) → r.expanded ≡ turns (length r.expanded) → length r.expanded ≡ n
    → r.expanded ≡ turns n
turns_so_many r n is many = is ∙ ap turns many

none_at_once : (space : StateSpace) (r : SearchRecord) (stats : Stats) → IsAtOnce space r stats
    → r.expanded ≡ turns stats.expanded
none_at_once space r stats once = ap (λ (q : SearchRecord). q.expanded) once.is
    ∙ sym (ap (λ (s : Stats). turns s.expanded) once.stats_are)

-- an ending counts the entries that were expanded, which are the first ones
pub ends_in_number : (space : StateSpace) (D K : State → Type 0) (limit : ℕ) (r : SearchRecord)
    (ending : Ending) (stats : Stats) →
    IsEnding space D K by_number limit r ending stats → r.expanded ≡ turns stats.expanded
ends_in_number space D K limit r (Found plan) stats (inl (goal, none, once)) = none_at_once space r stats once
ends_in_number space D K limit r (Found plan) stats (inr (uncut, found)) =
    turns_so_many r stats.expanded (in_number uncut.1.stands)
    (sym (ap (λ (s : Stats). s.expanded) found.stats_are))
ends_in_number space D K limit r Unsolvable stats (inl (goal, dropped, once)) =
    none_at_once space r stats once
ends_in_number space D K limit r Unsolvable stats (inr (uncut, closed)) =
    turns_so_many r stats.expanded (in_number uncut.1.stands)
    (every_turn uncut.1.stands closed.every ∙ sym (ap (λ (s : Stats). s.expanded) closed.stats_are))
ends_in_number space D K limit r Exhausted stats h = absurd h
ends_in_number space D K limit r Limit stats (uncut, full) =
    turns_so_many r stats.expanded (in_number uncut.1.stands)
    (sym (ap (λ (s : Stats). s.expanded) full.stats_are))

once_few : (space : StateSpace) (r : SearchRecord) (stats : Stats) → IsAtOnce space r stats
    → stats.expanded ≤ length r.entries
once_few space r stats once =
    (let none = ap (λ (s : Stats). s.expanded) once.stats_are in omega (arith, none))

-- and they are entries
pub ends_few : (space : StateSpace) (D K : State → Type 0) (limit : ℕ) (r : SearchRecord) (ending : Ending)
    (stats : Stats) →
    IsEnding space D K by_number limit r ending stats → stats.expanded ≤ length r.entries
ends_few space D K limit r (Found plan) stats (inl (goal, none, once)) = once_few space r stats once
ends_few space D K limit r (Found plan) stats (inr (uncut, found)) =
    (let same = ap (λ (s : Stats). s.expanded) found.stats_are in let few = expanded_few uncut.1.stands in
    omega (arith, same, few))
ends_few space D K limit r Unsolvable stats (inl (goal, dropped, once)) = once_few space r stats once
ends_few space D K limit r Unsolvable stats (inr (uncut, closed)) =
    (let same = ap (λ (s : Stats). s.expanded) closed.stats_are in omega (arith, same))
ends_few space D K limit r Exhausted stats h = absurd h
ends_few space D K limit r Limit stats (uncut, full) =
    (let same = ap (λ (s : Stats). s.expanded) full.stats_are in let few = expanded_few uncut.1.stands in
    omega (arith, same, few))

-- the same of width searches
module _ (space : StateSpace) (task : Task) (k limit : ℕ) (r : SearchRecord) where
  closed_in_number : {D K : List State → State → Type 0} → IsRecordUpTo space D K by_number r
      → (stats : Stats) →
      IsClosed space r stats → r.expanded ≡ turns stats.expanded
  closed_in_number stands stats closed =
      turns_so_many r stats.expanded (in_number stands)
      (every_turn stands closed.every ∙ sym (ap (λ (s : Stats). s.expanded) closed.stats_are))

  pub width_in_number : (ending : Ending) (stats : Stats) → IsWidthEnding space task k limit r ending stats →
      r.expanded ≡ turns stats.expanded
  width_in_number (Found plan) stats (inl (goal, none, once)) = none_at_once space r stats once
  width_in_number (Found plan) stats (inr (way, found)) =
      turns_so_many r stats.expanded (in_number way.stands)
      (sym (ap (λ (s : Stats). s.expanded) found.stats_are))
  width_in_number Unsolvable stats (way, closed, known) = closed_in_number way.stands stats closed
  width_in_number Exhausted stats (way, closed, left) = closed_in_number way.stands stats closed
  width_in_number Limit stats (way, full) =
      turns_so_many r stats.expanded (in_number way.stands)
      (sym (ap (λ (s : Stats). s.expanded) full.stats_are))

  pub width_few : (ending : Ending) (stats : Stats) → IsWidthEnding space task k limit r ending stats →
      stats.expanded ≤ length r.entries
  width_few (Found plan) stats (inl (goal, none, once)) = once_few space r stats once
  width_few (Found plan) stats (inr (way, found)) =
      (let same = ap (λ (s : Stats). s.expanded) found.stats_are in let few = expanded_few way.stands in
      omega (arith, same, few))
  width_few Unsolvable stats (way, closed, known) =
      (let same = ap (λ (s : Stats). s.expanded) closed.stats_are in omega (arith, same))
  width_few Exhausted stats (way, closed, left) =
      (let same = ap (λ (s : Stats). s.expanded) closed.stats_are in omega (arith, same))
  width_few Limit stats (way, full) =
      (let same = ap (λ (s : Stats). s.expanded) full.stats_are in let few = expanded_few way.stands in
      omega (arith, same, few))
