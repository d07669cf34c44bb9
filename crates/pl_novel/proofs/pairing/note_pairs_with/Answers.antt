use Rattle.std.proofs.Common.{refl}
use Rattle.pl_novel.specs.Keys.{pairs_with, with_all}
use Rattle.pl_novel.proofs.Lists.{extends_itself, extends_trans}
use Rattle.pl_novel.proofs.Pairings.{with_on, with_none}
use Rattle.pl_novel.proofs.pairing.note_pairs_with.Goals as goal

pub loop-number-init : goal.loop-number-init
loop-number-init c = record { rest = refl; extends = extends_itself c.args.pairs.now.keys }

pub loop-number-preserved : goal.loop-number-preserved
loop-number-preserved c = record {
  rest = with_on c.loop-number.pairs.keys c.note_around.new.pairs.keys
      (with_all c.args.pairs.now.keys (pairs_with c.args.numbers.now c.args.added.now)) c.args.numbers.now
      c.args.added.now
      c.loop-number.number-index c.loop-number-test.true c.loop-number.invariant.rest
      c.in_ok-note_around.ensures.ok;
  extends = extends_trans c.args.pairs.now.keys c.loop-number.pairs.keys c.note_around.new.pairs.keys
      c.loop-number.invariant.extends c.note_around.ensures.extends;
}

pub returns-in_err-note_around-clause-extends : goal.returns-in_err-note_around-clause-extends
returns-in_err-note_around-clause-extends c =
    extends_trans c.args.pairs.now.keys c.loop-number.pairs.keys c.note_around.new.pairs.keys
    c.loop-number.invariant.extends c.note_around.ensures.extends

pub returns-clause-ok : goal.returns-clause-ok
returns-clause-ok c =
    with_none c.loop-number.pairs.keys
    (with_all c.args.pairs.now.keys (pairs_with c.args.numbers.now c.args.added.now)) c.args.numbers.now
    c.args.added.now c.loop-number.number-index
    c.loop-number-test.false c.loop-number.invariant.rest

pub returns-clause-extends : goal.returns-clause-extends
returns-clause-extends c = c.loop-number.invariant.extends
