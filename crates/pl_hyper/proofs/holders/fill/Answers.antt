use Rattle.std.proofs.Common.{arith, subst, length, ◌≡◌}
use Rattle.pl_hyper.specs.Holders.{AreFilled}
use Rattle.pl_hyper.proofs.Holding.{filled_begin, filled_more}
use Rattle.pl_hyper.proofs.holders.fill.Goals as goal

pub loop-e-init : goal.loop-e-init
loop-e-init c = filled_begin c.args.edges.now c.args.words.now c.args.present.now c.requires.words
    c.requires.present

pub loop-e-preserved : goal.loop-e-preserved
loop-e-preserved c =
    filled_more c.args.edges.now c.loop-e.e c.loop-e.words c.loop-e.present c.add_edge.new.words
    c.with_member.result c.loop-e.invariant c.add_edge.ensures.many
    (omega (arith, c.requires.many, c.loop-e.auto.present, c.loop-e-test.true)) c.add_edge.ensures.added
    c.with_member.ensures

pub returns-clause-filled : goal.returns-clause-filled
returns-clause-filled c =
    let all : c.loop-e.e ≡ length c.args.edges.now =
    omega (arith, c.loop-e-test.false, c.loop-e.auto.e-end) in
    subst (λ n. AreFilled c.args.edges.now n c.loop-e.words c.loop-e.present) all c.loop-e.invariant
