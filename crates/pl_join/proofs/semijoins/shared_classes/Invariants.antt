use Rattle.std.proofs.Common.{◌≡◌, take}
use Rattle.pl_join.specs.Source.{shared_with}
use Rattle.pl_join.proofs.semijoins.shared_classes.Given as goal

abbrev pub invariant-loop-class : goal.invariant-loop-class
invariant-loop-class l = l.shared.items ≡ shared_with (take l.class-index l.classes) l.others
