use Rattle.pl_valid.proofs.AtomSets.{listed_more}
use Rattle.pl_valid.proofs.effect.initial_state.Goals as goal

pub loop-atom-preserved : goal.loop-atom-preserved
loop-atom-preserved c =
    listed_more _ _ c.args.task.now.init c.as_slice-init.result.now c.loop-atom.atom-index
    c.atom-item.result c.in_ok-of.field-0
    c.as_slice-init.ensures c.loop-atom-test.true c.atom-item.is c.in_ok-of.ensures
    c.loop-atom.invariant c.in_ok-add.ensures
