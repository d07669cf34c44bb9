use Rattle.std.proofs.Common.{◌++◌, count_by}
use Rattle.pl_rows.specs.Rows.{rows_of}
use Rattle.pl_state.specs.Changing.{is_done}
use Rattle.pl_state.proofs.Mergings.{IsUnderWay, is_left}
use Rattle.pl_state.proofs.merging.merge.Given as goal

abbrev pub invariant-loop-effect : goal.invariant-loop-effect
invariant-loop-effect l =
    IsUnderWay l.args l.predicate l.arity l.deletes l.adds (rows_of l.arity l.old.count l.old.flat.now) l.last
    l.done l.many l.fn.new.items l.new.items

abbrev pub decreases-loop-effect : goal.decreases-loop-effect
decreases-loop-effect l = count_by (is_left l.args l.predicate (is_done l.args l.last)) (l.deletes ++ l.adds)
