use Rattle.std.proofs.Common.{◌≡◌, take}
use Rattle.std.specs.List.{flat_map}
use Rattle.pl_normal.specs.Classes.{literal_fixing}
use Rattle.pl_normal.proofs.classes.fixings.Given as goal

abbrev pub invariant-loop-literal : goal.invariant-loop-literal
invariant-loop-literal l = l.found.items ≡ flat_map literal_fixing (take l.literal-index l.condition)
