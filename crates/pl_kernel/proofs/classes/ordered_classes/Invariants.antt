use Rattle.std.proofs.Common.{◌≡◌, ◌<◌, All, take}
use Rattle.pl_kernel.specs.ClassesByAppearance.{classes_by_appearance}
use Rattle.pl_kernel.proofs.classes.ordered_classes.Given as goal

abbrev pub invariant-loop-relation : goal.invariant-loop-relation
invariant-loop-relation l = record {
  order : l.met.items ≡ classes_by_appearance (take l.relation-index l.relations);
  below : All (λ r. All (λ c. c < 64) r.classes) (take l.relation-index l.relations);
}
