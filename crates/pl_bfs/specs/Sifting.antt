-- What a width search keeps of the states that it has registered and left out, and what its parts promise
-- each other.
use Rattle.std.specs.Prelude.{◌≡◌, ◌⊎◌, ℕ, suc, ◌≤◌, Bool, true, false, IsFalse, List, [], ◌∷◌, ◌++◌}
use Rattle.std.specs.Prelude.{Contains, Option, Some, None, Result, Ok, Err}
use Rattle.pl_task.specs.declared.task.Task.{Task}
use Rattle.pl_task.specs.Instance.{Instance}
use Rattle.pl_task.specs.States.{State, initial}
use Rattle.pl_task.specs.Goal.{is_goal}
use Rattle.pl_state.specs.StateOf.{state_in}
use Rattle.pl_registry.specs.StateSpace.{space_of}
use Rattle.pl_registry.specs.SearchRecord.{Pair, SearchRecord, states_of}
use Rattle.pl_registry.specs.declared.ended.Ended.{Ended}
use Rattle.pl_registry.specs.declared.ended.Outcome.{Outcome}
use Rattle.pl_registry.specs.declared.ended.Outcome.TheVariants as outcome
use Rattle.pl_registry.specs.declared.ended.Stats.{Stats}
use Rattle.pl_registry.specs.Ending.{Ending, ending_of, AreAllKnown}
use Rattle.pl_registry.specs.Ending.Ending.{Unsolvable, Exhausted}
use Rattle.pl_registry.specs.Novelty.{IsNovel, IsStale}
use Rattle.pl_registry.specs.Registered.{Register, IsHeld, IsHeldAs}
use Rattle.pl_registry.specs.Held.{states_held, HoldsBetweenTurns, HoldsInTurn}
use Rattle.pl_novel.specs.Noting.{Noted}
use Rattle.pl_novel.specs.Laws.{AreSetsSeen}
use Rattle.pl_bfs.specs.declared.sieve.Sieve.{Sieve}
use Rattle.pl_hooks.specs.Trying.{target_of, IsReached, IsLeftOut, IsTakenIn, IsTurnedAway}
use Rattle.pl_bfs.specs.Width.{EndsByWidth, IsWidthBrokenOff}

-- under width k, which is 1 or 2, noted are the sets of the states seen, and no others
pub record NotesSeen (task : Task) (k : ℕ) (seen : List State) (noted : Noted) : Type 0 where
  pub width : noted.width ≡ k
  pub some : 1 ≤ noted.width
  pub few : noted.width ≤ 2
  pub sets : AreSetsSeen task noted seen

-- whether a state that is left out is registered is told: where it is, or one that isn't was left out before,
-- nothing changes
abbrev pub TellsHeld : Register → List ℕ → Bool → Bool → Type 0
TellsHeld now words before after =
    ((i : ℕ) × IsHeldAs now words i × (after ≡ before))
    ⊎ (((IsHeld now words → ⊥) × (after ≡ true)) ⊎ ((before ≡ true) × (after ≡ true)))

-- the state is new, and seen now
pub record IsFoundNew (task : Task) (k : ℕ) (now : Register) (words : List ℕ)
    (before after : Sieve) : Type 0 where
  pub novel : IsNovel task k (states_held task now) (state_in task words)
  pub notes : NotesSeen task k (states_held task now ++ state_in task words ∷ []) after.novelty
  pub same : after.left_out ≡ before.left_out

-- the state is not new
pub record IsFoundStale (task : Task) (k : ℕ) (now : Register) (words : List ℕ)
    (before after : Sieve) : Type 0 where
  pub stale : IsStale task k (states_held task now) (state_in task words)
  pub notes : NotesSeen task k (states_held task now) after.novelty
  pub told : TellsHeld now words before.left_out after.left_out

abbrev pub Sifts : {E : Type 0} → Task → ℕ → Register → List ℕ → Sieve → Sieve → Result Bool E → Type 0
Sifts task k now words before after (Ok true) = IsFoundNew task k now words before after
Sifts task k now words before after (Ok false) = IsFoundStale task k now words before after
Sifts task k now words before after (Err e) = Unit {0}

module _ (task : Task) (k : ℕ) (old new : Register) (before after : Sieve) (n : ℕ) (step : Instance) where
  -- the target is not new, and is left out
  pub record IsSiftedOut : Type 0 where
    pub left : IsLeftOut (IsStale task k (states_held task old)) task old new n step
    pub stale : IsStale task k (states_held task old) (target_of task old n step)
    pub notes : NotesSeen task k (states_held task old) after.novelty
    pub told : TellsHeld old left.words before.left_out after.left_out

  -- the target is new, and is registered
  pub record IsSiftedIn : Type 0 where
    pub taken : IsTakenIn (IsNovel task k (states_held task old)) task old new n step
    pub notes : NotesSeen task k (states_held task old ++ target_of task old n step ∷ []) after.novelty
    pub same : after.left_out ≡ before.left_out

  -- the search goes on, or ends here; where memory is wanting the registry is as it was
  abbrev pub TriesNew : {E : Type 0} → Result (Option Outcome) E → Type 0
  TriesNew (Ok None) = IsSiftedOut ⊎ IsSiftedIn
  TriesNew (Ok (Some (outcome.Found plan))) = IsReached task old new n step plan
  TriesNew (Ok (Some outcome.Limit)) = IsTurnedAway (IsNovel task k (states_held task old)) task old new n
      step
  TriesNew (Ok (Some outcome.Unsolvable)) = ⊥
  TriesNew (Err e) = new ≡ old

-- a pair leads to a state that is not registered, and never will be, since it is not new
pub record IsLeftBehind (task : Task) (k : ℕ) (r : SearchRecord) : Type 0 where
  pub pair : Pair
  pub tried : Contains r.pairs pair
  pub unknown : Contains (states_of r.entries) pair.target → ⊥
  pub stale : IsStale task k (states_of r.entries) pair.target

-- whether some pair does is told
abbrev pub TellsLeftOut : Task → ℕ → SearchRecord → Bool → Type 0
TellsLeftOut task k r true = IsLeftBehind task k r
TellsLeftOut task k r false = AreAllKnown r

module _ (task : Task) (k : ℕ) (first : Register) where
  -- the entries below n were expanded, in order, and all their pairs tried
  pub record IsSiftedBetween (now : Register) (n generated : ℕ) (sieve : Sieve) : Type 0 where
    pub no_goal : IsFalse (is_goal task (initial task))
    pub turns : HoldsBetweenTurns task (space_of task) (IsStale task k) (IsNovel task k) now n generated
    pub told : TellsLeftOut task k turns.of sieve.left_out
    pub notes : NotesSeen task k (states_held task now) sieve.novelty
    pub limit : now.limit ≡ first.limit

  -- the same within the turn of entry n, of whose steps these are left
  pub record IsSiftedWithin (now : Register) (n : ℕ) (left : List Instance) (generated : ℕ)
      (sieve : Sieve) : Type 0 where
    pub no_goal : IsFalse (is_goal task (initial task))
    pub turn : HoldsInTurn task (space_of task) (IsStale task k) (IsNovel task k) now n left generated
    pub told : TellsLeftOut task k turn.of sieve.left_out
    pub notes : NotesSeen task k (states_held task now) sieve.novelty
    pub limit : now.limit ≡ first.limit

  -- after the turn of entry n the search goes on with the next one, or has ended within the turn, or memory
  -- ran out
  abbrev pub AfterSiftedTurn : {E : Type 0} → Register → ℕ → ℕ → Sieve → Result (Option Ended) E → Type 0
  AfterSiftedTurn new n generated sieve (Ok None) = IsSiftedBetween new (suc n) generated sieve
  AfterSiftedTurn new n generated sieve (Ok (Some ended)) = EndsByWidth task k first new
      (ending_of ended.outcome) ended.stats
  AfterSiftedTurn new n generated sieve (Err e) = IsWidthBrokenOff task k first new

-- how a search ends that has no state left: whether states were left out decides
abbrev pub closed_by : Bool → Ending
closed_by true = Exhausted
closed_by false = Unsolvable

abbrev pub stats_by : ℕ → ℕ → ℕ → Stats
stats_by states expanded generated = record { states = states; expanded = expanded; generated = generated }
