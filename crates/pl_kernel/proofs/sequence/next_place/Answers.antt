use Rattle.std.proofs.Common.{sym, ◌∙◌}
use Rattle.pl_kernel.proofs.NextPlace.{unshared_more}
use Rattle.pl_kernel.proofs.sequence.next_place.Goals as goal

pub loop-place-preserved : goal.loop-place-preserved
loop-place-preserved c =
    unshared_more (λ r. r.now) c.args.classes.now c.args.left.now c.loop-place.place _ c.loop-place-test.true
    c.index-left-place.is (sym c.shares.ensures ∙ c.if-shares.false) c.loop-place.invariant
