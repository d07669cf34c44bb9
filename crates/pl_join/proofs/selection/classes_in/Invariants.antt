use Rattle.std.proofs.Common.{take}
use Rattle.pl_join.specs.Source.{IsGathered}
use Rattle.pl_join.proofs.selection.classes_in.Given as goal

abbrev pub invariant-loop-class : goal.invariant-loop-class
invariant-loop-class l = IsGathered l.slots (take l.class-index l.order) l.classes.items l.columns.items
