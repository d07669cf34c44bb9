use Rattle.std.proofs.Common.{◌≡◌, ◌-◌, slice_range, ap, sym, subst, ◌∙◌, arith}
use Rattle.pl_rows.specs.Rows.{Rows, rows_of}
use Rattle.pl_rows.proofs.Values.{appended, length-view}
use Rattle.pl_rows.proofs.builder.TableBuilder.push_range.Goals as goal

pub overflow_add-self : goal.overflow_add-self
overflow_add-self c = omega (arith, c.requires.few, length-view _ _ _ _ c.self.view_is)

pub returns-clause-rows : goal.returns-clause-rows
returns-clause-rows c =
    appended _ _ _ _ _ _ _ _ c.self.view_is c.self.invariant c.in_ok-extend_from_slice.ensures.items
    (subst (λ k. rows_of k (c.args.range.to - c.args.range.from) c.part.result.now ≡ slice_range
    c.args.table.now.rows c.args.range.from c.args.range.to)
    (c.requires.arity ∙ sym (ap (λ (v : Rows). v.arity) c.self.view_is)) c.part.ensures.rows)
