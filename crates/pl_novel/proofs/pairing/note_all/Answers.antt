use Rattle.std.proofs.Common.{refl}
use Rattle.pl_novel.specs.Keys.{pair_of, pairs_by, with_all}
use Rattle.pl_novel.proofs.Lists.{extends_itself, extends_trans}
use Rattle.pl_novel.proofs.Pairings.{rest_less, rest_none}
use Rattle.pl_novel.proofs.pairing.note_all.Goals as goal

pub loop-i-init : goal.loop-i-init
loop-i-init c = record { rest = refl; extends = extends_itself c.args.pairs.now.keys }

pub returns-in_err-note_with-clause-extends : goal.returns-in_err-note_with-clause-extends
returns-in_err-note_with-clause-extends c =
    extends_trans c.args.pairs.now.keys c.loop-i.pairs.keys c.note_with.new.pairs.keys
    c.loop-i.invariant.extends c.note_with.ensures.extends

pub loop-i-preserved : goal.loop-i-preserved
loop-i-preserved c = record {
  rest = rest_less c.loop-i.pairs.keys c.note_with.new.pairs.keys
      (with_all c.args.pairs.now.keys (pairs_by pair_of c.args.numbers.now)) c.args.numbers.now c.loop-i.i
      c.loop-i-test.true c.loop-i.invariant.rest c.in_ok-note_with.ensures.ok;
  extends = extends_trans c.args.pairs.now.keys c.loop-i.pairs.keys c.note_with.new.pairs.keys
      c.loop-i.invariant.extends c.note_with.ensures.extends;
}

pub returns-clause-ok : goal.returns-clause-ok
returns-clause-ok c = rest_none c.loop-i.pairs.keys
    (with_all c.args.pairs.now.keys (pairs_by pair_of c.args.numbers.now)) c.args.numbers.now c.loop-i.i
    c.loop-i-test.false c.loop-i.invariant.rest

pub returns-clause-extends : goal.returns-clause-extends
returns-clause-extends c = c.loop-i.invariant.extends
