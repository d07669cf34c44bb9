-- The law that the module `laws` carries.
use Rattle.std.specs.Prelude.{◌≡◌, List}
use Rattle.pl_task.specs.declared.plan.PlanLine.{PlanLine}
use Rattle.pl_task.specs.declared.task.Task.{Task}
use Rattle.pl_valid.specs.declared.verdict.Verdict.{Verdict}
use Rattle.pl_valid.specs.Verdict.{IsVerdict}

-- a list of lines has one verdict at most
abbrev pub VerdictIsOne : Task → Type 0
VerdictIsOne task = (lines : List PlanLine) (v w : Verdict) → IsVerdict task lines v →
    IsVerdict task lines w → v ≡ w
