-- The summary of `make`.
use Rattle.std.specs.Prelude.{ℕ, List, [], ◌∷◌, ◌++◌, length, codes, decimal}
use Rattle.pl_task.specs.declared.task.Task.{Task}
use Rattle.pl_task.specs.Instance.{Instance}
use Rattle.pl_registry.specs.declared.ended.Stats.{Stats}
use Rattle.pl_valid.specs.declared.verdict.Verdict.{Verdict}
use Rattle.pl_print.specs.Texts.{in_turn, verdict_text}

-- how many objects and initial atoms there are, how long a plan is, and what a search has counted, each on a
-- line
unfoldable pub counts_text : ℕ → ℕ → ℕ → Stats → List ℕ
counts_text objects atoms steps stats =
    in_turn (codes "objects " ∷ decimal objects ∷ codes "\natoms " ∷ decimal atoms ∷ codes
    "\nlength " ∷ decimal steps ∷
    codes "\nstates " ∷ decimal stats.states ∷ codes "\nexpanded " ∷ decimal stats.expanded ∷
    codes "\ngenerated " ∷ decimal stats.generated ∷ codes "\n" ∷ [])

-- The counts of a task, of a plan of it and of the search that found it, and then the verdict on the plan. A
-- task has each of its initial atoms once.
abbrev pub summary_text : Task → List Instance → Stats → Verdict → List ℕ
summary_text task plan stats verdict =
    counts_text (length task.objects) (length task.init) (length plan) stats ++ verdict_text verdict
