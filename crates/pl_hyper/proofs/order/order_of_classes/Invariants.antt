use Rattle.std.proofs.Common.{◌++◌, length, map, take, reverse}
use Rattle.pl_hyper.proofs.Orders.{AreListed}
use Rattle.pl_hyper.proofs.order.order_of_classes.Given as goal

abbrev pub invariant-loop-edge : goal.invariant-loop-edge
invariant-loop-edge l = AreListed l.edges (take l.edge-index l.core) l.order.items l.met

abbrev pub invariant-loop-ear : goal.invariant-loop-ear
invariant-loop-ear l = AreListed l.edges
    (l.core ++ map (λ x. x.edge) (take (length l.yielded) (reverse l.removed))) l.order.items l.met
