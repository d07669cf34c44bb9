use Rattle.std.proofs.Common.{[], ◌∷◌, refl}
use Rattle.pl_novel.specs.Keys.{pairs_around, with_all}
use Rattle.pl_novel.proofs.Lists.{extends_itself, extends_trans}
use Rattle.pl_novel.proofs.Pairings.{begins, around_on}
use Rattle.pl_novel.proofs.pairing.note_around.Goals as goal

pub loop-place-init : goal.loop-place-init
loop-place-init c = record { rest = refl; extends = extends_itself c.args.pairs.now.keys }

pub loop-place-preserved : goal.loop-place-preserved
loop-place-preserved c = record {
  rest = around_on c.loop-place.pairs.keys c.insert.new.self.keys
      (with_all c.args.pairs.now.keys (pairs_around c.args.numbers.now c.args.number)) c.args.numbers.now
      c.args.number c.loop-place.place
      c.of.result c.loop-place-test.true c.if-numbers-place.false c.loop-place.invariant.rest c.of.ensures
      c.in_ok-insert.ensures.keys;
  extends = extends_trans c.args.pairs.now.keys c.loop-place.pairs.keys c.insert.new.self.keys
      c.loop-place.invariant.extends
      (begins c.loop-place.pairs.keys c.insert.new.self.keys (c.of.result ∷ []) c.in_ok-insert.ensures.keys);
}
