use Rattle.std.proofs.Common.{◌≡◌, ◌++◌, drop}
use Rattle.std.specs.List.{filter_map}
use Rattle.pl_check.specs.Literals.{object_of}
use Rattle.pl_check.proofs.effects.ground.Given as goal

-- the objects of what is left are still to come
abbrev pub invariant-loop-term : goal.invariant-loop-term
invariant-loop-term l = filter_map object_of l.terms ≡ l.objects.items ++ filter_map object_of
    (drop l.term-index l.terms)
