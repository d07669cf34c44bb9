use Rattle.std.proofs.Common.{◌≡◌, ◌++◌}
use Rattle.std.specs.List.{flat_map, range_with_len}
use Rattle.pl_normal.specs.Scope.{other_of}
use Rattle.pl_normal.proofs.order.then_others.Given as goal

abbrev pub invariant-loop-p : goal.invariant-loop-p
invariant-loop-p l = l.order.items ≡ l.classes ++ flat_map (other_of l.classes) (range_with_len 0 l.p)
