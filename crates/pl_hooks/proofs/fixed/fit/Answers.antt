use Rattle.pl_hooks.proofs.Fixings.{fits_more}
use Rattle.pl_hooks.proofs.fixed.fit.Goals as goal

pub loop-i-preserved : goal.loop-i-preserved
loop-i-preserved c = fits_more c.args.terms.now c.args.objects.now c.loop-i.i c.loop-i.invariant
    (c.fits.ensures.0 c.if-not-fits.false)
