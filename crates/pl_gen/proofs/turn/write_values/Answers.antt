use Rattle.pl_gen.proofs.Stepping.{values_written}
use Rattle.pl_gen.proofs.turn.write_values.Goals as goal

pub returns-clause-values : goal.returns-clause-values
returns-clause-values c = values_written c.args.classes.now c.args.row.now c.loop-i.values c.loop-i.i
    c.requires.distinct c.loop-i-test.false c.loop-i.invariant.1
