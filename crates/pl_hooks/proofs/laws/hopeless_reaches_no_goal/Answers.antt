use Rattle.pl_hooks.proofs.DeadEnds.{hopeless_reaches_no_goal}
use Rattle.pl_hooks.proofs.laws.hopeless_reaches_no_goal.Goals as goal

pub returns : goal.returns
returns c = record { none = hopeless_reaches_no_goal c.args._task.now }
