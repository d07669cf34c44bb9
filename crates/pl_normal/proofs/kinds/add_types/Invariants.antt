use Rattle.std.proofs.Common.{◌≡◌, ◌++◌, take}
use Rattle.pl_normal.specs.Kinds.{lists_of, parameter_types}
use Rattle.pl_normal.proofs.kinds.add_types.Given as goal

abbrev pub invariant-loop-i : goal.invariant-loop-i
invariant-loop-i l = lists_of l.lists.items ≡ lists_of l.fn.lists.items
    ++ parameter_types (take l.i l.parameters)
