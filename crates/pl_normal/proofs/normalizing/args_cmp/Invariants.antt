use Rattle.std.proofs.Common.{◌≡◌, drop}
use Rattle.pl_rows.specs.Rows.{row_cmp}
use Rattle.pl_normal.specs.StepOrder.{read_in}
use Rattle.pl_normal.proofs.normalizing.args_cmp.Given as goal

abbrev pub invariant-loop-p : goal.invariant-loop-p
invariant-loop-p l = row_cmp (read_in l.order l.a) (read_in l.order l.b) ≡ row_cmp
    (read_in (drop l.p-index l.order) l.a) (read_in (drop l.p-index l.order) l.b)
