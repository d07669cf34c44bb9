use Rattle.pl_kernel.proofs.CoreClasses.{core_classes}
use Rattle.pl_kernel.proofs.laws.core_classes_are_in_class_order.Goals as goal

pub returns : goal.returns
returns c = core_classes
