use Rattle.std.proofs.Common.{arith, sym, ap, refl, ◌∙◌, is_ge}
use Rattle.pl_rows.proofs.Places.{length-rows_of}
use Rattle.pl_rows.proofs.Sorting.{ascending_more, not_ascending, ascending_all}
use Rattle.pl_rows.proofs.sort.are_ascending.Goals as goal

pub returns-then-is_ge : goal.returns-then-is_ge
returns-then-is_ge c = (
  λ t. absurd (cc t),
  λ s. absurd (not_ascending _ _ _ _ (omega arith) c.row_at.ensures.row c.row_at-in-loop-i.ensures.row
      (sym (c.if-is_ge.ensures ∙ ap is_ge c.cmp.ensures)) s),
)

pub loop-i-preserved : goal.loop-i-preserved
loop-i-preserved c =
    ascending_more _ _ _ _ (omega arith) c.row_at.ensures.row c.row_at-in-loop-i.ensures.row
    (sym (c.if-is_ge.ensures ∙ ap is_ge c.cmp.ensures)) c.loop-i.invariant

pub returns : goal.returns
returns c = (
  λ t. ascending_all _ _ (omega (arith, length-rows_of c.args.arity c.args.count c.args.flat.now))
      c.loop-i.invariant,
  λ s. refl,
)
