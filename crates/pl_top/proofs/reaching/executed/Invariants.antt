use Rattle.std.proofs.Common.{◌≡◌, drop}
use Rattle.pl_task.specs.States.{initial}
use Rattle.pl_state.specs.StateOf.{state_in, IsStateOf}
use Rattle.pl_top.specs.Reaching.{after_lines}
use Rattle.pl_top.proofs.reaching.executed.Given as goal

-- the lines that are left lead from the state so far to where all lead from the initial one
abbrev pub invariant-loop-line : goal.invariant-loop-line
invariant-loop-line l =
    IsStateOf l.task l.state
    × (after_lines l.task (state_in l.task l.state) (drop l.line-index l.lines) ≡ after_lines l.task
    (initial l.task) l.lines)
