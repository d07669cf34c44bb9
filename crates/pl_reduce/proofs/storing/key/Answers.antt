use Rattle.pl_join.proofs.Assignments.{few_classes}
use Rattle.pl_reduce.proofs.storing.key.Goals as goal

pub width_of-width-requires-clause-few : goal.width_of-width-requires-clause-few
width_of-width-requires-clause-few g c =
    let few = few_classes c.args.relation.classes 64 c.classes.ensures.relation.distinct
    c.classes.ensures.relation.below in
    rw c.classes.ensures.classes few
