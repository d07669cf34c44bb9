use Rattle.pl_hooks.proofs.Fixings.{could_is}
use Rattle.pl_hooks.proofs.fixed.could_give.Goals as goal

pub returns : goal.returns
returns c =
    could_is c.args.effect.now c.args.atom.now c.as_slice-terms.result.now c.as_slice-objects.result.now
    c.fit.result c.as_slice-terms.ensures c.as_slice-objects.ensures c.if-effect-atom.false
    c.if-terms-objects.false c.fit.ensures
