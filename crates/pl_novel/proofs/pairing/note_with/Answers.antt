use Rattle.std.proofs.Common.{refl, map, take}
use Rattle.pl_novel.specs.Keys.{pair_of}
use Rattle.pl_novel.proofs.Pairings.{with_more, with_whole, begins, begins_more}
use Rattle.pl_novel.proofs.pairing.note_with.Goals as goal

pub loop-second-init : goal.loop-second-init
loop-second-init c = refl

pub returns-in_err-insert-clause-extends : goal.returns-in_err-insert-clause-extends
returns-in_err-insert-clause-extends c =
    begins_more c.args.pairs.now.keys c.loop-second.pairs.keys c.insert.new.self.keys c.args.first
    c.args.others.now c.loop-second.second-index c.loop-second.invariant c.in_err-insert.ensures.err

pub loop-second-preserved : goal.loop-second-preserved
loop-second-preserved c =
    with_more c.args.pairs.now.keys c.loop-second.pairs.keys c.insert.new.self.keys c.of.result c.args.first
    c.args.others.now c.loop-second.second-index c.loop-second-test.true c.loop-second.invariant
    c.of.ensures c.in_ok-insert.ensures.keys

pub returns-clause-ok : goal.returns-clause-ok
returns-clause-ok c = with_whole c.args.pairs.now.keys c.loop-second.pairs.keys c.args.first c.args.others.now
    c.loop-second.second-index c.loop-second-test.false c.loop-second.invariant

pub returns-clause-extends : goal.returns-clause-extends
returns-clause-extends c = begins c.args.pairs.now.keys c.loop-second.pairs.keys
    (map (pair_of c.args.first) (take c.loop-second.second-index c.args.others.now)) c.loop-second.invariant
