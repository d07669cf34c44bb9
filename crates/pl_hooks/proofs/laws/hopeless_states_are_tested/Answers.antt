use Rattle.pl_hooks.proofs.Deciding.{is_hopeless-decides}
use Rattle.pl_hooks.proofs.laws.hopeless_states_are_tested.Goals as goal

pub returns : goal.returns
returns c = record { tested = is_hopeless-decides c.args._task.now }
