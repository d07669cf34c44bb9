use Rattle.std.proofs.Common.{◌↔◌, drop}
use Rattle.pl_task.specs.States.{AreTyped}
use Rattle.pl_valid.specs.Judging.{KnowsTypes}
use Rattle.pl_valid.proofs.typing.TypeTable.are_typed.Given as goal

-- what is left of the parameters and arguments decides
abbrev pub invariant-loop-i : goal.invariant-loop-i
invariant-loop-i l = (AreTyped l.task l.parameters l.args ↔
    AreTyped l.task (drop l.i l.parameters) (drop l.i l.args)) × KnowsTypes l.task l.self
