use Rattle.std.proofs.Common.{◌≡◌, map, take}
use Rattle.pl_normal.specs.Guards.{has_some_type}
use Rattle.pl_normal.proofs.kinds.first_answers.Given as goal

abbrev pub invariant-loop-i : goal.invariant-loop-i
invariant-loop-i l = l.answers.items ≡ map (has_some_type l.task l.types) (take l.i l.firsts)
