use Rattle.pl_task.specs.States.{state_of}
use Rattle.pl_valid.proofs.AtomSets.{added_more}
use Rattle.pl_valid.proofs.effect.add_all.Goals as goal

pub loop-effect-preserved : goal.loop-effect-preserved
loop-effect-preserved c =
    added_more (state_of c.args.atoms.now.keys) _ _ c.args.args.now c.args.effects.now
    c.loop-effect.effect-index c.effect-item.result c.in_ok-grounded.field-0
    c.loop-effect-test.true c.effect-item.is c.in_ok-grounded.ensures
    c.loop-effect.invariant c.in_ok-add.ensures
