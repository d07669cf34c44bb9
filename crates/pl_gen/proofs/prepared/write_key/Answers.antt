use Rattle.std.specs.Prelude.{slice_index}
use Rattle.std.proofs.Common.{refl}
use Rattle.pl_gen.proofs.Stepping.{key_more}
use Rattle.pl_gen.proofs.prepared.write_key.Goals as goal

pub loop-i-preserved : goal.loop-i-preserved
loop-i-preserved c =
    key_more (slice_index c.args.args.now) c.args.classes.now c.args.key.now c.loop-i.key c.loop-i.i _ 0
    c.loop-i-test.true c.requires.room c.loop-i.invariant refl
