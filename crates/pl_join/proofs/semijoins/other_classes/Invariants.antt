use Rattle.std.proofs.Common.{◌≡◌, take}
use Rattle.pl_join.specs.Relation.{without}
use Rattle.pl_join.proofs.semijoins.other_classes.Given as goal

abbrev pub invariant-loop-class : goal.invariant-loop-class
invariant-loop-class l = l.rest.items ≡ without (take l.class-index l.classes) l.others
