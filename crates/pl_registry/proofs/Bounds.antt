-- Bounds on probes: entries stay as a registry grows, and the bounds of the turns add up to that of the
-- search.
use Rattle.std.proofs.Common.{◌≡◌, ◌+◌, ◌<◌, ◌≤◌, ℕ, zero, suc, List, [], ◌∷◌, ◌++◌, length, length-append}
use Rattle.std.proofs.Common.{All, refl, sym, ap, ◌∙◌, subst, arith}
use Rattle.std.specs.List.{sum_by}
use Rattle.std.proofs.lemmas.List.{get_or-map, get_or_append_left}
use Rattle.std.proofs.lemmas.List.Elements.{All-head, All-tail, All-push}
use Rattle.std.proofs.lemmas.List.Sums.{sum_by-cons, sum_by_push}
use Rattle.pl_task.specs.declared.task.Task.{Task}
use Rattle.pl_task.specs.Instance.{Instance}
use Rattle.pl_state.specs.StateOf.{state_in}
use Rattle.pl_normal.specs.Measures.{probe_bound}
use Rattle.pl_registry.specs.SearchRecord.{Entry, SearchRecord, entry_at}
use Rattle.pl_registry.specs.Registered.{Register, Registered, registered_at, entry_of, entries_of}
use Rattle.pl_registry.specs.Registered.{with_entry}
use Rattle.pl_registry.specs.Held.{turns, state_at}
use Rattle.pl_registry.specs.Probes.{search_bound, bound_of, KeepsEntries}

pub kept_all : (r : Register) → KeepsEntries r r
kept_all r = record { many = omega arith; same = λ i l. refl }

pub kept_on : {old now new : Register} → KeepsEntries old now → KeepsEntries now new → KeepsEntries old new
kept_on a b = record {
  many = (let first = a.many in let then = b.many in omega (arith, first, then));
  same = λ i l. b.same i (let first = a.many in omega (arith, first, l)) ∙ a.same i l;
}

pub kept_same : (old new : Register) → new ≡ old → KeepsEntries old new
kept_same old new e = subst (KeepsEntries old) (sym e) (kept_all old)

kept_longer : (old : Register) (words : List ℕ) (n : ℕ) (step : Instance)
    → KeepsEntries old (with_entry old words n step)
kept_longer old words n step = record {
  many = (let both = length-append old.entries (record { words = words; parent = n; step = step } ∷ []) in
      omega (arith, both));
  same = λ i l. get_or_append_left old.entries (record { words = words; parent = n; step = step } ∷ []) _ i l;
}

pub kept_more : (old new : Register) (words : List ℕ) (n : ℕ) (step : Instance)
    → new ≡ with_entry old words n step → KeepsEntries old new
kept_more old new words n step e = subst (KeepsEntries old) (sym e) (kept_longer old words n step)

-- what is registered stays so
pub still_registered : (old new : Register) (numbers : List ℕ) → KeepsEntries old new →
    All (λ i. i < length old.entries) numbers → All (λ i. i < length new.entries) numbers
still_registered old new numbers kept all k d l =
    (let under = all k d l in let more = kept.many in omega (arith, under, more))

-- the first numbers are those of entries
pub turns_registered : (now : Register) (n : ℕ) → n ≤ length now.entries
    → All (λ i. i < length now.entries) (turns n)
turns_registered now zero l = λ k d w. absurd (omega arith)
turns_registered now (suc n) l = All-push (λ i. i < length now.entries) (turns n) n
    (turns_registered now n (omega arith)) (omega arith)

-- sums that are one, part by part
added : (x a b y c d : ℕ) → x ≡ a + b → y ≡ c + d → a ≡ c → b ≡ d → x ≡ y
added x a b y c d p q r s = omega (arith, p, q, r, s)

sums_same : (f g : ℕ → ℕ) (P : ℕ → Type 0) (xs : List ℕ) → All P xs → ((i : ℕ) → P i → f i ≡ g i)
    → sum_by f xs ≡ sum_by g xs
sums_same f g P [] all same = refl
sums_same f g P (x ∷ xs) all same =
    added (sum_by f (x ∷ xs)) (f x) (sum_by f xs) (sum_by g (x ∷ xs)) (g x) (sum_by g xs) (sum_by-cons f x xs)
    (sum_by-cons g x xs)
    (same x (All-head P x xs all)) (sums_same f g P xs (All-tail P x xs all) same)

module _ (task : Task) where
  -- the bound of entries stays
  bound_kept : (old new : Register) (past : List ℕ) → All (λ i. i < length old.entries) past
      → KeepsEntries old new →
      bound_of task new past ≡ bound_of task old past
  bound_kept old new past all kept =
      sums_same (λ i. probe_bound task (state_at task new i)) (λ i. probe_bound task (state_at task old i))
      (λ i. i < length old.entries) past all
      (λ i l. ap (λ (e : Registered). probe_bound task (state_in task e.words)) (kept.same i l))

  -- the probes of the turns so far, and of one more, that of entry n
  pub turn_added : (old new : Register) (past : List ℕ) (n first before after : ℕ)
      → All (λ i. i < length old.entries) (past ++ n ∷ []) → KeepsEntries old new →
      before ≤ first + bound_of task old past → after ≤ before + probe_bound task (state_at task old n) →
      after ≤ first + bound_of task new (past ++ n ∷ [])
  turn_added old new past n first before after all kept spent cost =
      let same = bound_kept old new (past ++ n ∷ []) all kept in
      let both = sum_by_push (λ i. probe_bound task (state_at task old i)) past n in
      omega (arith, same, both, spent, cost)

  -- a record whose entries a registry holds has the bound of the states that it expanded
  pub record_bound : (now : Register) (r : SearchRecord) (past : List ℕ) → entries_of task now ≡ r.entries
      → r.expanded ≡ past →
      All (λ i. i < length now.entries) past → search_bound task r ≡ bound_of task now past
  record_bound now r past holds turns_are all =
      ap (λ es. sum_by (λ i. probe_bound task (entry_at es i).state) r.expanded) (sym holds)
      ∙ ap (sum_by (λ i. probe_bound task (entry_at (entries_of task now) i).state)) turns_are
      ∙ sums_same (λ i. probe_bound task (entry_at (entries_of task now) i).state)
      (λ i. probe_bound task (state_at task now i)) (λ i. i < length now.entries) past all
      (λ i l. ap (λ (e : Entry). probe_bound task e.state) (get_or-map (entry_of task) now.entries i _ _ l))

  -- before its first step a turn may take the bound of its state
  pub begun_within : (now : Register) (n : ℕ) (words : List ℕ) (before steps walk reads : ℕ) →
      words ≡ (registered_at now.entries n).words → reads ≤ walk →
      steps + walk ≤ before + probe_bound task (state_in task words) →
      steps + reads ≤ before + probe_bound task (state_at task now n)
  begun_within now n words before steps walk reads read few cost =
      let same = ap (λ ws. probe_bound task (state_in task ws)) read in
      omega (arith, same, few, cost)
