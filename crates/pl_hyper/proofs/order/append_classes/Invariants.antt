use Rattle.std.proofs.Common.{◌≡◌, ◌++◌}
use Rattle.pl_hyper.specs.ClassOrder.{classes_below}
use Rattle.pl_hyper.proofs.order.append_classes.Given as goal

abbrev pub invariant-loop-class : goal.invariant-loop-class
invariant-loop-class l = l.order.items ≡ l.initial.order.items ++ classes_below l.class l.classes
