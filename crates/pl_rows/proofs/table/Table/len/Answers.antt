use Rattle.std.proofs.Common.{◌<◌, ◌^◌, sym, ap, ◌∙◌, subst, length, All}
use Rattle.pl_rows.specs.Rows.{Rows}
use Rattle.pl_rows.proofs.Places.{length-rows_of, values-rows_of}
use Rattle.pl_rows.proofs.Values.{are_rows-view}
use Rattle.pl_rows.proofs.table.Table.len.Goals as goal

pub returns-clause-len : goal.returns-clause-len
returns-clause-len c = sym (length-rows_of _ _ _) ∙ ap (λ (v : Rows). length v.rows) c.self.view_is

pub returns-clause-rows : goal.returns-clause-rows
returns-clause-rows c = are_rows-view _ _ _ _ c.self.view_is c.self.invariant

pub returns-clause-values : goal.returns-clause-values
returns-clause-values c =
    subst (λ (v : Rows). All (λ row. All (λ value. value < 2 ^ 32) row) v.rows) c.self.view_is
    (values-rows_of (λ value. value < 2 ^ 32) _ _ _ c.self.invariant.values)
