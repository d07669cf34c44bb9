use Rattle.std.proofs.Common.{arith, rules}
use Rattle.pl_hyper.proofs.Holding.{AreOthers-found, none_in_block, IsFirstParent-holder, no_parent}
use Rattle.pl_hyper.proofs.search.first_parent.Goals as goal

pub loop-block-init : goal.loop-block-init
loop-block-init c = λ b k low h s apart. omega (arith, low)

pub returns-then-others-ne0-clause-first : goal.returns-then-others-ne0-clause-first
returns-then-others-ne0-clause-first c = λ edges remaining a.
    IsFirstParent-holder edges remaining c.args.holders.now.words.items c.args.holders.now.present.items
    c.args.edge c.args.classes c.loop-block.block c.without_edge-others.result c.least_member.result
    c.ranges.classes.fits c.loop-block.invariant
    (AreOthers-found c.args.holders.now.words.items c.args.holders.now.present.items c.args.edge
    c.args.classes c.loop-block.block c.common_holders.result c.without_edge-others.result
    c.common_holders.ensures c.without_edge-others.ensures)
    c.least_member.ensures.below c.least_member.ensures.held c.least_member.ensures.least a

pub loop-block-preserved : goal.loop-block-preserved
loop-block-preserved c =
    none_in_block c.args.holders.now.words.items c.args.holders.now.present.items c.args.edge c.args.classes
    c.loop-block.block c.without_edge-others.result c.loop-block.invariant
    (AreOthers-found c.args.holders.now.words.items c.args.holders.now.present.items c.args.edge
    c.args.classes c.loop-block.block c.common_holders.result c.without_edge-others.result
    c.common_holders.ensures c.without_edge-others.ensures)
    c.if-others-ne0.false

pub returns-clause-none : goal.returns-clause-none
returns-clause-none c = λ edges remaining a.
    no_parent edges remaining c.args.holders.now.words.items c.args.holders.now.present.items c.args.edge
    c.args.classes c.loop-block.block c.ranges.classes.fits c.loop-block.invariant (search rules) a
