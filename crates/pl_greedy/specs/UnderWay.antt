-- A search under way, and what its parts leave.
use Rattle.std.specs.Prelude.{◌≡◌, ◌⊎◌, ℕ, suc, ◌+◌, ◌<◌, ◌≤◌, ◌^◌, Bool, List, [], ◌∷◌, ◌++◌, length}
use Rattle.std.specs.Prelude.{Contains, Option, Some, None, Result, Ok, Err}
use Rattle.std.specs.Borrow.{Bor}
use Rattle.std.specs.BinaryHeap.{KeepsHeap}
use Rattle.std.specs.Ordering.{nat_cmp}
use Rattle.std.specs.List.Sorted.{IsPermutation}
use denote.Param.Members.{Shared}
use Rattle.pl_task.specs.declared.task.Task.{Task}
use Rattle.pl_task.specs.Goal.{unmet}
use Rattle.pl_task.specs.Instance.{Instance}
use Rattle.pl_registry.specs.StateSpace.{space_of}
use Rattle.pl_registry.specs.SearchRecord.{Precedes}
use Rattle.pl_registry.specs.declared.ended.Ended.{Ended}
use Rattle.pl_registry.specs.declared.ended.Outcome.{Outcome}
use Rattle.pl_registry.specs.Registered.{Register, entries_of}
use Rattle.pl_registry.specs.Held.{IsUncutSearch, state_at}
use Rattle.pl_registry.specs.HeldByRank.{HoldsBetweenRanked, HoldsInRanked}
use Rattle.pl_registry.specs.Probes.{bound_of}
use Rattle.pl_gen.specs.Walks.{AreAcyclic}
use Rattle.pl_hooks.specs.Asked.{MayDrop, MayKeep}
use Rattle.pl_greedy.specs.Greedy.{IsGreedy, IsBrokenOff}
use Rattle.pl_hooks.specs.Trying.{IsLeftOut, IsTakenIn, Tries}
use Rattle.pl_greedy.specs.Queue.{key_of, IsQueued}

-- the key of the entry is one more in the heap
pub record IsMoreKeys (task : Task) (now : Register) (n : ℕ) (old new : List ℕ) : Type 0 where
  pub keeps : KeepsHeap nat_cmp old new
  pub more : IsPermutation (key_of (unmet task (state_at task now n)) n ∷ old) new
  pub small : unmet task (state_at task now n) < 2 ^ 32
  pub few : n < 2 ^ 32

module _ {F : Type 0} (calls : Shared F (Bor (List ℕ) × Unit {0}) Bool) (task : Task) (cut : F) where
  -- what trying a step comes to, with the keys: a state that is registered waits
  abbrev pub Attempts : {E : Type 0} → Register → Register → ℕ → Instance → List ℕ → List ℕ
      → Result (Option Outcome) E → Type 0
  Attempts old new n step keys more (Ok None) =
      (IsLeftOut (MayDrop calls task cut) task old new n step × (more ≡ keys)) ⊎
      (IsTakenIn (MayKeep calls task cut) task old new n step
      × IsMoreKeys task new (length old.entries) keys more)
  Attempts old new n step keys more (Ok (Some o)) = Tries calls task cut old new n step {E = ℕ} (Ok (Some o))
  Attempts old new n step keys more (Err e) = (new ≡ old)
      ⊎ IsTakenIn (MayKeep calls task cut) task old new n step

module _ {F : Type 0} (calls : Shared F (Bor (List ℕ) × Unit {0}) Bool) (task : Task) (cut : F)
    (first : Register) where
  -- these entries were expanded, in this order, and all their pairs tried
  pub record IsBetween (now : Register) (past keys : List ℕ) (expanded generated : ℕ) : Type 0 where
    pub many : expanded ≡ length past
    pub uncut : IsUncutSearch (space_of task) (MayKeep calls task cut)
    pub turns_are : HoldsBetweenRanked task (space_of task) (MayDrop calls task cut) (MayKeep calls task cut)
        (unmet task) now past generated
    pub limit : now.limit ≡ first.limit
    pub queued : IsQueued task now past keys

  -- the same, and entry n was taken from those that wait, as the first one
  pub record IsChosen (now : Register) (past keys : List ℕ) (n expanded generated : ℕ) : Type 0 where
    pub many : expanded ≡ length past
    pub uncut : IsUncutSearch (space_of task) (MayKeep calls task cut)
    pub turns_are : HoldsBetweenRanked task (space_of task) (MayDrop calls task cut) (MayKeep calls task cut)
        (unmet task) now past generated
    pub limit : now.limit ≡ first.limit
    pub there : n < length now.entries
    pub unexpanded : Contains past n → ⊥
    pub precedes : (i : ℕ) → i < length now.entries → (Contains past i → ⊥)
        → Precedes (unmet task) (entries_of task now) n i
    pub queued : IsQueued task now (past ++ n ∷ []) keys

  -- within the turn of entry n, of whose steps these are left
  pub record IsWithin (now : Register) (past keys : List ℕ) (n : ℕ) (left : List Instance)
      (expanded generated : ℕ) : Type 0 where
    pub many : expanded ≡ length past
    pub uncut : IsUncutSearch (space_of task) (MayKeep calls task cut)
    pub turn : HoldsInRanked task (space_of task) (MayDrop calls task cut) (MayKeep calls task cut)
        (unmet task) now past n left generated
    pub limit : now.limit ≡ first.limit
    pub queued : IsQueued task now (past ++ n ∷ []) keys

  -- the search has ended, after these entries were expanded
  pub record IsGreedyAfter (past : List ℕ) (new : Register) (ended : Ended) : Type 0 where
    pub search : IsGreedy calls task cut first new ended
    pub turns_are : search.of.expanded ≡ past

  -- After a turn, the last one of these, the search goes on with the next one, or has ended within the turn,
  -- or memory ran out.
  abbrev pub AfterTurn : {E : Type 0} → Register → List ℕ → List ℕ → ℕ → ℕ → Result (Option Ended) E → Type 0
  AfterTurn new past keys expanded generated (Ok None) = IsBetween new past keys (suc expanded) generated
  AfterTurn new past keys expanded generated (Ok (Some ended)) = IsGreedyAfter past new ended
  AfterTurn new past keys expanded generated (Err e) = IsBrokenOff calls task cut first new

  -- Between two turns: where all schemas are acyclic, what was taken since the search began is within the
  -- bounds of the entries that were expanded.
  pub record IsInBounds (now : Register) (keys : List ℕ) (expanded generated before after : ℕ) : Type 0 where
    pub past : List ℕ
    pub between : IsBetween now past keys expanded generated
    pub cost : AreAcyclic task → after ≤ before + bound_of task now past
