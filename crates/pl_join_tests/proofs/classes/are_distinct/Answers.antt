use Rattle.std.proofs.Common.{subst, arith}
use Rattle.std.proofs.lemmas.List.{take_all}
use Rattle.pl_join.specs.Relation.{AreDistinct}
use Rattle.pl_join.proofs.Joining.{distinct_more}
use Rattle.pl_join_tests.proofs.classes.are_distinct.Goals as goal

pub loop-i-preserved : goal.loop-i-preserved
loop-i-preserved c =
    distinct_more c.args.classes.now _ c.loop-i.i _ c.loop-i-test.true c.loop-i.invariant c.has.ensures
    c.if-has.false (grind arith)

pub returns : goal.returns
returns c t = subst AreDistinct (take_all c.loop-i.i c.args.classes.now c.loop-i-test.false)
    c.loop-i.invariant
