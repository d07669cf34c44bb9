use Rattle.pl_normal.specs.NormalTasks.{AreFormsOf}
use Rattle.pl_normal.proofs.normalizing.normal_schemas.Given as goal

abbrev pub invariant-loop-i : goal.invariant-loop-i
invariant-loop-i l = AreFormsOf l.task l.i l.forms.items
