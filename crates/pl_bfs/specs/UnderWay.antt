-- A search under way, and what its parts leave.
use Rattle.std.specs.Prelude.{◌≡◌, ℕ, suc, Bool, List, Option, Some, None, Result, Ok, Err}
use Rattle.std.specs.Borrow.{Bor}
use denote.Param.Members.{Shared}
use Rattle.pl_task.specs.declared.task.Task.{Task}
use Rattle.pl_task.specs.Instance.{Instance}
use Rattle.pl_registry.specs.StateSpace.{space_of}
use Rattle.pl_registry.specs.declared.ended.Ended.{Ended}
use Rattle.pl_registry.specs.Registered.{Register}
use Rattle.pl_registry.specs.Held.{IsUncutSearch, HoldsBetweenTurns, HoldsInTurn, turns}
use Rattle.pl_registry.specs.Probes.{bound_of}
use Rattle.pl_bfs.specs.Breadth.{MayDrop, MayKeep, IsBreadth, IsBrokenOff}

module _ {F : Type 0} (calls : Shared F (Bor (List ℕ) × Unit {0}) Bool) (task : Task) (cut : F)
    (old : Register) where
  -- the entries below n were expanded, in order, and all their pairs tried
  pub record IsBetween (now : Register) (n generated : ℕ) : Type 0 where
    pub uncut : IsUncutSearch (space_of task) (MayKeep calls task cut)
    pub turns : HoldsBetweenTurns task (space_of task) (λ _. MayDrop calls task cut)
        (λ _. MayKeep calls task cut) now n generated
    pub limit : now.limit ≡ old.limit

  -- the same within the turn of entry n, of whose steps these are left
  pub record IsWithin (now : Register) (n : ℕ) (left : List Instance) (generated : ℕ) : Type 0 where
    pub uncut : IsUncutSearch (space_of task) (MayKeep calls task cut)
    pub turn : HoldsInTurn task (space_of task) (λ _. MayDrop calls task cut)
        (λ _. MayKeep calls task cut) now n left generated
    pub limit : now.limit ≡ old.limit

  -- after the turn of entry n the search goes on with the next one, or has ended within the turn, or memory
  -- ran out
  abbrev pub AfterTurn : {E : Type 0} → Register → ℕ → ℕ → Result (Option Ended) E → Type 0
  AfterTurn new n generated (Ok None) = IsBetween new (suc n) generated
  AfterTurn new n generated (Ok (Some ended)) = IsBreadth calls task cut old new ended
  AfterTurn new n generated (Err e) = IsBrokenOff calls task cut old new

-- what the turns of the first n entries may probe
abbrev pub turns_bound : Task → Register → ℕ → ℕ
turns_bound task now n = bound_of task now (turns n)
