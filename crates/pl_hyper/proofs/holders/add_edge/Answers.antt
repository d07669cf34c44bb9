use Rattle.std.proofs.Common.{arith}
use Rattle.pl_hyper.proofs.Holding.{added_begin, added_more, added_end}
use Rattle.pl_hyper.proofs.holders.add_edge.Goals as goal

pub loop-left-init : goal.loop-left-init
loop-left-init c = added_begin c.args.words.now c.args.block c.args.place c.args.classes

pub loop-left-preserved : goal.loop-left-preserved
loop-left-preserved c =
    added_more c.args.words.now c.loop-left.words c.args.block c.args.place c.args.classes c.loop-left.left
    c.least_member-class.result c.without_member-left.result c.with_member.result
    c.least_member-class.ensures.below
    (omega (arith, c.requires.block, c.loop-left.auto.words, c.least_member-class.ensures.below))
    c.loop-left.invariant c.least_member-class.ensures.held c.without_member-left.ensures.members
    c.with_member.ensures

pub returns-clause-added : goal.returns-clause-added
returns-clause-added c =
    added_end c.args.words.now c.loop-left.words c.args.block c.args.place c.args.classes c.loop-left.left
    c.loop-left.invariant c.loop-left-test.false
