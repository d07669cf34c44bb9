use Rattle.std.proofs.Common.{◌≡◌, drop}
use Rattle.pl_normal.specs.Classes.{object_of}
use Rattle.pl_normal.proofs.classes.object_of.Given as goal

abbrev pub invariant-loop-fixing : goal.invariant-loop-fixing
invariant-loop-fixing l = object_of l.classes l.fixings l.class ≡ object_of l.classes
    (drop l.fixing-index l.fixings) l.class
