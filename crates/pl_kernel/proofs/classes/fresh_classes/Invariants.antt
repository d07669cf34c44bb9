use Rattle.std.proofs.Common.{◌≡◌}
use Rattle.pl_join.specs.Relation.{without}
use Rattle.pl_kernel.specs.ClassesByAppearance.{rising_below}
use Rattle.pl_kernel.proofs.classes.fresh_classes.Given as goal

abbrev pub invariant-loop-class : goal.invariant-loop-class
invariant-loop-class l = l.fresh.items ≡ without (rising_below l.class l.classes) l.met
