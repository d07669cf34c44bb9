use Rattle.pl_task.specs.States.{state_of}
use Rattle.pl_valid.proofs.StepLemmas.{literals_more, literals_all}
use Rattle.pl_valid.proofs.condition.hold_all.Goals as goal

pub loop-literal-preserved : goal.loop-literal-preserved
loop-literal-preserved c =
    literals_more (state_of c.args.atoms.now.keys) c.args.args.now c.args.condition.now
    c.loop-literal.literal-index c.literal-item.result c.in_ok-literal_holds.field-0
    c.loop-literal-test.true c.literal-item.is c.in_ok-literal_holds.ensures c.if-not-branch.false
    c.loop-literal.invariant

pub returns : goal.returns
returns c =
    literals_all (state_of c.args.atoms.now.keys) c.args.args.now c.args.condition.now
    c.loop-literal.literal-index c.loop-literal-test.false c.loop-literal.invariant
