use Rattle.std.proofs.Common.{◌≡◌, sym, subst}
use Rattle.std.proofs.lemmas.Result.{IfOk-weaker}
use Rattle.pl_rows.specs.Rows.{Rows, AreRows}
use Rattle.pl_join.proofs.filters.kept_rows.Goals as goal

pub returns-in-None-clause-rows : goal.returns-in-None-clause-rows
returns-in-None-clause-rows g c =
    IfOk-weaker _ (λ (t : Rows). t ≡ c.args.table.now) (λ (t : Rows). AreRows c.args.table.now.arity t.rows)
    (λ t e. subst (λ (t : Rows). AreRows c.args.table.now.arity t.rows) (sym e) c.copied.ensures.rows)
    c.copied.ensures.same
