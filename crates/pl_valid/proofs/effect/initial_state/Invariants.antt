use Rattle.std.proofs.Common.{◌≡◌, take}
use Rattle.pl_task.specs.States.{state_of}
use Rattle.pl_valid.proofs.effect.initial_state.Given as goal

abbrev pub invariant-loop-atom : goal.invariant-loop-atom
invariant-loop-atom l = state_of l.atoms.keys ≡ state_of (take l.atom-index l.task.init)
