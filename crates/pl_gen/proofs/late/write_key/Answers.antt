use Rattle.std.specs.Prelude.{slice_index}
use Rattle.pl_join.specs.Relation.{slot_value}
use Rattle.pl_gen.proofs.Stepping.{key_more}
use Rattle.pl_gen.proofs.late.write_key.Goals as goal

pub loop-i-preserved : goal.loop-i-preserved
loop-i-preserved c =
    key_more (slot_value (slice_index c.args.values.now)) c.args.slots.now c.args.key.now c.loop-i.key
    c.loop-i.i c.value_of.result _ c.loop-i-test.true c.requires.room c.loop-i.invariant
    c.value_of.ensures
