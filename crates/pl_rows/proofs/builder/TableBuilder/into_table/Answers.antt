use Rattle.std.proofs.Common.{◌≤◌, length, subst, IfOk}
use Rattle.pl_rows.specs.Rows.{Rows}
use Rattle.pl_rows.proofs.Values.{made-same, length-view}
use Rattle.pl_rows.proofs.builder.TableBuilder.into_table.Goals as goal

pub returns-clause-same : goal.returns-clause-same
returns-clause-same c = made-same _ _ _ _ _ c.self.view_is c.from_rows.ensures.same

pub returns-clause-most : goal.returns-clause-most
returns-clause-most c =
    subst (λ n. IfOk c.from_rows.result (λ (t : Rows). length t.rows ≤ n))
    (length-view _ _ _ _ c.self.view_is) c.from_rows.ensures.most
