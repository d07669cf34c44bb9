use Rattle.std.proofs.Common.{◌≡◌, map, take}
use Rattle.pl_task.specs.States.{value_of}
use Rattle.pl_valid.proofs.effect.grounded.Given as goal

abbrev pub invariant-loop-term : goal.invariant-loop-term
invariant-loop-term l = l.objects.items ≡ map (value_of l.args) (take l.term-index l.atom.terms)
