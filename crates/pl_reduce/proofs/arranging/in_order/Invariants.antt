use Rattle.std.proofs.Common.{◌≡◌, take}
use Rattle.pl_reduce.specs.Arranged.{ordered}
use Rattle.pl_reduce.proofs.arranging.in_order.Given as goal

abbrev pub invariant-loop-class : goal.invariant-loop-class
invariant-loop-class l = l.arranged.items ≡ ordered (take l.class-index l.order) l.classes
