-- The outcome of the bytes of a domain and a problem: a fault decides it, and else the task that they state.
use Rattle.std.proofs.Common.{◌≡◌, ℕ, ◌≤◌, List, length, ◌⊎◌, inl, inr, refl, sym, ◌∙◌, ap, subst}
use Rattle.pl_io.specs.Outside.{most_file_bytes}
use Rattle.pl_task.specs.declared.task.Task.{Task}
use Rattle.pl_check.specs.Laws.{FirstFaultIsOne, TaskIsOne, HaveFirstFault, HaveTask, FaultOrTask}
use Rattle.pl_check.specs.Laws.{FaultExcludesTask}
use Rattle.pl_check.specs.Stated.{AreStated}
use Rattle.pl_top.specs.Answer.{Outcome, IsInputFault, bytes_of, faulty}

-- the bytes state a task of which this holds
abbrev pub StateWith : List ℕ → List ℕ → (Task → Type 0) → Type 0
StateWith domain problem P = (task : Task) × AreStated domain problem task × P task

-- the outcome is one, where that of the task is one
pub input_one : FirstFaultIsOne → TaskIsOne → FaultExcludesTask → (domain problem : List ℕ)
    (outcome other : Outcome) (OfTask : Outcome → Type 0) (P : Outcome → Task → Type 0) →
    ((o : Outcome) → OfTask o → StateWith domain problem (P o)) →
    ((task : Task) → P outcome task → P other task → outcome ≡ other) →
    IsInputFault domain problem outcome ⊎ OfTask outcome → IsInputFault domain problem other ⊎ OfTask other →
    outcome ≡ other
input_one first_one task_one excludes_task domain problem outcome other OfTask P state one (inl h) (inl k) =
    h.comes ∙
    ap (λ found. faulty (bytes_of domain problem found.file) found)
    (first_one domain problem h.found k.found h.is_first k.is_first) ∙
    sym k.comes
input_one first_one task_one excludes_task domain problem outcome other OfTask P state one (inl h) (inr k) =
    let (task, stated, is) = state other k in
    absurd (excludes_task domain problem h.found task h.is_first stated)
input_one first_one task_one excludes_task domain problem outcome other OfTask P state one (inr h) (inl k) =
    let (task, stated, is) = state outcome h in
    absurd (excludes_task domain problem k.found task k.is_first stated)
input_one first_one task_one excludes_task domain problem outcome other OfTask P state one (inr h) (inr k) =
    let (task, stated, is) = state outcome h in
    let (task', stated', is') = state other k in
    one task' (subst (P outcome) (task_one domain problem task task' stated stated') is) is'

-- there is an outcome, where a task gives one
pub input_there : FaultOrTask → (domain problem : List ℕ) (OfTask : Outcome → Type 0) →
    length domain ≤ most_file_bytes → length problem ≤ most_file_bytes →
    ((task : Task) → AreStated domain problem task → (outcome : Outcome) × OfTask outcome) →
    (outcome : Outcome) × (IsInputFault domain problem outcome ⊎ OfTask outcome)
input_there fault_or_task domain problem OfTask dle ple there =
    by_files (fault_or_task domain problem dle ple)
  where
    by_files : HaveFirstFault domain problem ⊎ HaveTask domain problem →
        (outcome : Outcome) × (IsInputFault domain problem outcome ⊎ OfTask outcome)
    by_files (inl faulted) = (
      faulty (bytes_of domain problem faulted.0.file) faulted.0,
      inl (record { found = faulted.0; is_first = faulted.1; comes = refl }),
    )
    by_files (inr has) = (let found = there has.0 has.1 in (found.0, inr found.1))
