use Rattle.pl_normal.proofs.Removing.{ear_removal-is, one_removal}
use Rattle.pl_normal.proofs.laws.ears_are_removed_in_one_way.Goals as goal

pub returns : goal.returns
returns c = record { is = ear_removal-is; one = one_removal }
