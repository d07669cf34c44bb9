-- Laws about hooks, carried by the functions of the module `laws`.
use Rattle.std.specs.Prelude.{◌↔◌, IsTrue}
use Rattle.pl_task.specs.declared.task.Task.{Task}
use Rattle.pl_task.specs.States.{State}
use Rattle.pl_task.specs.Goal.{IsHopeless}
use Rattle.pl_registry.specs.Cut.{ReachesNoGoal}
use Rattle.pl_hooks.specs.Hopeless.{is_hopeless}

-- from a hopeless state no goal state is reachable
abbrev pub HopelessStatesReachNoGoal : Task → Type 0
HopelessStatesReachNoGoal task = (s : State) → IsHopeless task s → ReachesNoGoal task s

-- the test decides which states are hopeless
abbrev pub HopelessStatesAreTested : Task → Type 0
HopelessStatesAreTested task = (s : State) → IsTrue (is_hopeless task s) ↔ IsHopeless task s
