use Rattle.std.proofs.Common.{◌≡◌, ℕ, nat_eq, cond, Some, subst}
use Rattle.indexmap.specs.IndexMap.{get}
use Rattle.pl_rows.proofs.PairRanges.{one_more_range}
use Rattle.pl_rows.proofs.pairs.note.Goals as goal

pub returns : goal.returns
returns c = one_more_range c.args.table.now.rows c.args.pairs.now c.insert.new.self c.args.first c.args.second
    c.pair_range-range.result c.ranges.second.fits c.pair_range-range.ensures c.requires.ranges
    (subst (λ n. (q : ℕ) → get nat_eq c.insert.new.self q ≡ cond (nat_eq n q) (Some c.pair_range-range.result)
    (get nat_eq c.args.pairs.now q)) c.number_of.ensures c.in_ok-insert.ensures.updates.0)
