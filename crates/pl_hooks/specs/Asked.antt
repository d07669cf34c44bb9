-- What a search may do with a state, by what the closure of its pruner may answer.
use Rattle.std.specs.Prelude.{◌≡◌, ℕ, Bool, true, false, List}
use Rattle.std.specs.Borrow.{Bor}
use Rattle.std.specs.Fn.{FnReturnsAt}
use denote.Param.Members.{Shared}
use Rattle.pl_task.specs.declared.task.Task.{Task}
use Rattle.pl_task.specs.States.{State}
use Rattle.pl_state.specs.StateOf.{state_in, IsStateOf}

-- the closure may answer this of the packed state
abbrev pub MayAnswer : {F : Type 0} → Shared F (Bor (List ℕ) × Unit {0}) Bool → Task → F → Bool → State
    → Type 0
MayAnswer calls task cut answer s = (words : List ℕ) × IsStateOf task words × (state_in task words ≡ s)
    × FnReturnsAt calls cut words answer

-- a state may be dropped only where the closure may say yes, and kept only where it may say no
abbrev pub MayDrop : {F : Type 0} → Shared F (Bor (List ℕ) × Unit {0}) Bool → Task → F → State → Type 0
MayDrop calls task cut s = MayAnswer calls task cut true s

abbrev pub MayKeep : {F : Type 0} → Shared F (Bor (List ℕ) × Unit {0}) Bool → Task → F → State → Type 0
MayKeep calls task cut s = MayAnswer calls task cut false s
