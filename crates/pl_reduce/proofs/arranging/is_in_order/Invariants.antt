use Rattle.std.proofs.Common.{◌≡◌, ◌≤◌, take, length}
use Rattle.pl_reduce.specs.Arranged.{ordered}
use Rattle.pl_reduce.proofs.arranging.is_in_order.Given as goal

abbrev pub invariant-loop-class : goal.invariant-loop-class
invariant-loop-class l = record {
  within : l.met ≤ length l.classes;
  met_are : ordered (take l.class-index l.order) l.classes ≡ take l.met l.classes;
}
