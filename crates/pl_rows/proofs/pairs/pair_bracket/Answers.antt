use Rattle.std.proofs.Common.{nat_eq, ap, ◌∙◌, rules}
use Rattle.indexmap.specs.IndexMap.{get}
use Rattle.pl_rows.proofs.PairRanges.{looked_up}
use Rattle.pl_rows.proofs.pairs.pair_bracket.Goals as goal

pub returns : goal.returns
returns c = looked_up c.args.table.now.rows c.args.pairs.now c.args.key.now c.copied.result c.requires.key
    (search rules) c.requires.ranges
    (c.copied.ensures ∙ c.get.ensures.value ∙ ap (λ n. get nat_eq c.args.pairs.now n) c.number_of.ensures)
