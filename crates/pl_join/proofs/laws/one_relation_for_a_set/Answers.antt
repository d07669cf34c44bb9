use Rattle.pl_join.proofs.Assignments.{same_relation}
use Rattle.pl_join.proofs.laws.one_relation_for_a_set.Goals as goal

pub returns : goal.returns
returns c = same_relation
