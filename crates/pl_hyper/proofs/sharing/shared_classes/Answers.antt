use Rattle.std.proofs.Common.{arith, refl, subst, ◌≡◌, length}
use Rattle.pl_hyper.proofs.Searches.{AreSeen, seen_more, seen_all}
use Rattle.pl_hyper.proofs.sharing.shared_classes.Goals as goal

pub loop-e-preserved : goal.loop-e-preserved
loop-e-preserved c = seen_more c.args.edges.now c.args.remaining.now c.loop-e.e-index c.loop-e.once
    c.loop-e.twice _ c.loop-e.invariant refl

pub returns : goal.returns
returns c =
    let all : c.loop-e.e-index ≡ length c.args.remaining.now = omega arith in
    seen_all c.args.edges.now c.args.remaining.now c.loop-e.once c.loop-e.twice c.requires.rising
    (subst (λ n. AreSeen c.args.edges.now c.args.remaining.now n c.loop-e.once c.loop-e.twice) all
    c.loop-e.invariant)
