use Rattle.pl_task.specs.States.{state_of}
use Rattle.pl_state.proofs.Buildings.{AreBuilt}
use Rattle.pl_state.proofs.packing.pack.Given as goal

abbrev pub invariant-loop-number : goal.invariant-loop-number
invariant-loop-number l = AreBuilt l.task (state_of l.atoms) l.number l.words.items
