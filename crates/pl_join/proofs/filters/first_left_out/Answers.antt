use Rattle.std.proofs.Common.{arith, sym, ◌∙◌}
use Rattle.pl_join.specs.Lookup.{keys_of}
use Rattle.pl_join.specs.Source.{is_kept}
use Rattle.pl_join.proofs.Loops.{all_kept_more, left_out_first}
use Rattle.pl_join.proofs.filters.first_left_out.Goals as goal

pub returns-then-not-keeps-clause-kept : goal.returns-then-not-keeps-clause-kept
returns-then-not-keeps-clause-kept g c =
    left_out_first (is_kept c.args.keep (keys_of c.args.other) c.args.sources.now) _ _ _ c.row-row.ensures.row
    (sym c.keeps.ensures.kept ∙ c.if-not-keeps.true) c.loop-i.invariant.kept

pub loop-i-preserved : goal.loop-i-preserved
loop-i-preserved g c = record {
  values = c.keeps.auto.values ∙ c.loop-i.invariant.values;
  kept = all_kept_more (is_kept c.args.keep (keys_of c.args.other) c.args.sources.now) _ _ _
      c.row-row.ensures.row (sym c.keeps.ensures.kept ∙ c.if-not-keeps.false) c.loop-i.invariant.kept;
  cost = omega arith;
}
