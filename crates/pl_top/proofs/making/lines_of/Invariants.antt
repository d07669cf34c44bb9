use Rattle.std.proofs.Common.{◌≡◌, map, take}
use Rattle.pl_task.specs.declared.plan.PlanLine.TheVariants as line
use Rattle.pl_top.proofs.making.lines_of.Given as goal

-- a line for each step so far
abbrev pub invariant-loop-step : goal.invariant-loop-step
invariant-loop-step l = l.lines.items ≡ map line.Step (take l.step-index l.steps)
