use Rattle.std.proofs.Common.{◌<◌, length, sym, ap, ◌∙◌}
use Rattle.std.specs.List.{fold}
use Rattle.pl_state.proofs.Feedings.{four_fed, few_fed}
use Rattle.pl_state.proofs.hashing.feed_fours.Goals as goal

pub loop-left-preserved : goal.loop-left-preserved
loop-left-preserved g c =
    c.loop-left.invariant ∙
    four_fed g.H.Hasher.write c.loop-left.state c.write_u128.new.self c.loop-left.left.now
    c.behind_four-left.result.now c.four_words.result c.loop-left-test.true c.four_words.ensures
    c.write_u128.ensures c.behind_four-left.ensures

pub returns : goal.returns
returns g c =
    let few : length c.loop-left.left.now < 4 = c.loop-left-test.false in
    c.hash_slice.ensures ∙ ap (fold g.H.Hasher.write c.loop-left.state) (few_fed c.loop-left.left.now few) ∙
    sym c.loop-left.invariant
