use Rattle.pl_normal.proofs.Joined.{tested_joined, joined_tested, class_of-least}
use Rattle.pl_normal.proofs.laws.classes_are_least.Goals as goal

pub returns : goal.returns
returns c = record {
  tested = λ es a b. (tested_joined es a b, joined_tested es a b);
  least = λ es p. record { joined = (class_of-least es p).joined; least = (class_of-least es p).least };
}
