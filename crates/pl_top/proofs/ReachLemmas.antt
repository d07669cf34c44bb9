-- The lines of a plan, and the state that they lead to.
use Rattle.std.proofs.Common.{◌≡◌, ◌+◌, ◌<◌, ℕ, List, [], ◌∷◌, map, drop, length, get_or, sym, ◌∙◌, ap, subst}
use Rattle.std.proofs.lemmas.List.{drop_more}
use Rattle.pl_task.specs.declared.plan.PlanLine.{PlanLine}
use Rattle.pl_task.specs.declared.plan.PlanLine.TheVariants as line
use Rattle.pl_task.specs.declared.task.Task.{Task}
use Rattle.pl_task.specs.Instance.{Instance}
use Rattle.pl_task.specs.States.{State, initial, result_of}
use Rattle.pl_task.specs.Plans.{Executes}
use Rattle.pl_valid.specs.declared.verdict.Verdict.{Verdict}
use Rattle.pl_valid.specs.declared.verdict.Verdict.TheVariants.{Valid, GoalMissed}
use Rattle.pl_valid.specs.Verdict.{IsVerdict}
use Rattle.pl_top.specs.Reaching.{AreExecuted, after_line, after_lines}

-- steps that are executed lead to the state after their lines
leads : (task : Task) (s state : State) (steps : List Instance) → Executes task s steps state
    → state ≡ after_lines task s (map line.Step steps)
leads task s state [] done = sym done
leads task s state (step ∷ steps) (applicable, rest) = leads task (result_of task s step) state steps rest

-- lines that are executed lead to the state after them
executed_lines : (task : Task) (lines : List PlanLine) (steps : List Instance) (state : State)
    → lines ≡ map line.Step steps
    → Executes task (initial task) steps state → AreExecuted task lines
    (after_lines task (initial task) lines)
executed_lines task lines steps state are executed = record {
  steps = steps;
  lines_are = are;
  executed = subst (Executes task (initial task) steps)
      (leads task (initial task) state steps executed ∙ ap (after_lines task (initial task)) (sym are))
      executed;
}

-- a valid plan is executed
pub valid_lines : (task : Task) (lines : List PlanLine) (verdict : Verdict) (count : ℕ)
    → verdict ≡ Valid count
    → IsVerdict task lines verdict → AreExecuted task lines (after_lines task (initial task) lines)
valid_lines task lines verdict count is h =
    let found = subst (IsVerdict task lines) is h in
    executed_lines task lines found.1.0 found.1.2.0 found.1.1 found.1.2.1

-- lines that miss the goal are executed
pub missing_lines : (task : Task) (lines : List PlanLine) (verdict : Verdict) → verdict ≡ GoalMissed
    → IsVerdict task lines verdict → AreExecuted task lines (after_lines task (initial task) lines)
missing_lines task lines verdict is h =
    let missed = subst (IsVerdict task lines) is h in
    executed_lines task lines missed.steps missed.state missed.lines_are missed.executed

-- a further line
pub more_lines : (task : Task) (lines : List PlanLine) (i : ℕ) (d : PlanLine) (s next all : State)
    → i < length lines
    → next ≡ after_line task s (get_or lines i d) → after_lines task s (drop i lines) ≡ all
    → after_lines task next (drop (i + 1) lines) ≡ all
more_lines task lines i d s next all here moved so_far =
    ap (λ (x : State). after_lines task x (drop (i + 1) lines)) moved
    ∙ sym (ap (after_lines task s) (drop_more lines i d here)) ∙ so_far
