use Rattle.pl_kernel.proofs.CoreClasses.{join_of_one}
use Rattle.pl_kernel.proofs.laws.one_relation_is_its_join.Goals as goal

pub returns : goal.returns
returns c = join_of_one
