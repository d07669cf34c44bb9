use Rattle.std.proofs.Common.{◌≡◌, [], map, take}
use Rattle.pl_task.specs.States.{state_of, atom_at, changed}
use Rattle.pl_valid.proofs.effect.delete_all.Given as goal

abbrev pub invariant-loop-effect : goal.invariant-loop-effect
invariant-loop-effect l = state_of l.atoms.keys ≡ changed (state_of l.fn.atoms.keys)
    (map (atom_at l.args) (take l.effect-index l.effects)) []
