use Rattle.pl_normal.specs.Recipes.{has_no_table}
use Rattle.pl_normal.proofs.Unchanging.{among_source, among_filters}
use Rattle.pl_normal.proofs.fixed.is_fixed_among.Goals as goal

pub returns-then-not-is_fixed_source : goal.returns-then-not-is_fixed_source
returns-then-not-is_fixed_source c =
    among_source (has_no_table c.args.statics.now) c.args.edges.now c.args.local.now c.args.number
    c.index-edges-number.result c.is_fixed_source.result
    c.requires c.is_fixed_source.ensures c.if-not-is_fixed_source.true

pub returns : goal.returns
returns c =
    among_filters (has_no_table c.args.statics.now) c.args.edges.now c.args.local.now c.args.number
    c.index-edges-number.result c.is_fixed_source.result
    c.are_fixed_for.result c.requires c.is_fixed_source.ensures c.if-not-is_fixed_source.false
    c.are_fixed_for.ensures
