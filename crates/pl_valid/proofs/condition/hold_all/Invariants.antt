use Rattle.std.proofs.Common.{IsTrue, All, take}
use Rattle.pl_task.specs.States.{state_of, is_met}
use Rattle.pl_valid.proofs.condition.hold_all.Given as goal

abbrev pub invariant-loop-literal : goal.invariant-loop-literal
invariant-loop-literal l = All (λ x. IsTrue (is_met (state_of l.atoms.keys) l.args x))
    (take l.literal-index l.condition)
