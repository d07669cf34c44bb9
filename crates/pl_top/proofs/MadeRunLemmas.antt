-- How a run of `make` ends, and what it says of the made task.
use Rattle.std.proofs.Common.{◌≡◌, ◌≢◌, ◌⊎◌, ℕ, zero, suc, ◌++◌, append-nil, Option, Some, None, List, []}
use Rattle.std.proofs.Common.{◌∷◌, take, inl, inr, refl, sym, ◌∙◌, ap, subst, arith}
use Rattle.std.specs.Io.KnownBytes.{Appends}
use Rattle.pl_io.specs.Outside.{BegunThen, ShelfSeen, SinkSeen}
use Rattle.pl_check.specs.Laws.{TaskIsOne}
use Rattle.pl_check.specs.Stated.{AreStated}
use Rattle.pl_check.specs.declared.role.FileRole.{FileRole}
use Rattle.pl_task.specs.declared.task.Task.{Task}
use Rattle.pl_make.specs.declared.kind.Kind.{Kind}
use Rattle.pl_make.specs.Texts.{domain_text, problem_text}
use Rattle.pl_top.specs.Answer.{Outcome, IsInputFault, IsMadeOf, IsMadeOutcome}
use Rattle.pl_top.specs.declared.refusal.Refusal.{Refusal}
use Rattle.pl_top.specs.Planning.{IsDecisive, IsMadeSettled, IsOfTask, SaysOfMade}
use Rattle.pl_top.specs.Refusal.{HasBegun, IsRefused, IsUnanswered, outcome_of, status_of as refusal_status}
use Rattle.pl_top.specs.Request.{Request, Validate, Successors, FindPlan, Make, names_of}
use Rattle.pl_top.specs.Run.{Ending, RunEnds, IsCause, IsLinePut, IsWritten, EndsWith, status_of, Answered}
use Rattle.pl_top.specs.Run.{StoppedReading, StoppedWriting, OutOfMemory}
use Rattle.pl_top.specs.Writing.{Finishes}
use Rattle.pl_top.proofs.FileLemmas.{unanswered}
use Rattle.pl_top.proofs.FinishLemmas.{finished_run}
use Rattle.pl_top.proofs.MadeLemmas.{made_truth, made_settled}
use Rattle.pl_top.proofs.RunLemmas.{refused_run}

-- no further name was begun
no_name : (begun : Option (List (List ℕ))) → BegunThen begun [] begun
no_name None = tt
no_name (Some names) = sym (append-nil names)

-- no file was begun
none_begun : (kind : Kind) (n start : ℕ) (shelf : ShelfSeen) → HasBegun (Make kind n start) 0 shelf shelf
none_begun kind n start shelf = record { files = refl; faults = omega arith; names = no_name shelf.begun }

-- how the run of a task that is stated ends
pub made_run : (kind : Kind) (n start : ℕ) (shelf : ShelfSeen) (out out' err err' : SinkSeen) (result : ℕ)
    (task : Task) →
    AreStated (domain_text kind) (problem_text kind n start) task
    → Finishes (IsMadeOutcome task) out out' err err' result →
    RunEnds (Make kind n start) shelf shelf out out' err err' result
made_run kind n start shelf out out' err err' result task stated =
    finished_run (Make kind n start) shelf shelf out out' err err' result 0 (IsMadeOutcome task)
    (none_begun kind n start shelf)
    (λ outcome made. inr (record { task = task; stated = stated; made = made }))

-- why a made task was refused
unmade : (kind : Kind) (n start : ℕ) (shelf : ShelfSeen) (r : Refusal) →
    IsUnanswered (IsInputFault (domain_text kind) (problem_text kind n start)) r
    → IsRefused (Make kind n start) shelf shelf r
unmade kind n start shelf r =
    unanswered (Make kind n start) 0 shelf shelf (IsInputFault (domain_text kind) (problem_text kind n start)) r
    (none_begun kind n start shelf) (λ outcome why. inl why)

pub unmade_run : (kind : Kind) (n start : ℕ) (shelf : ShelfSeen) (out out' err err' : SinkSeen) (result : ℕ)
    (r : Refusal) →
    IsUnanswered (IsInputFault (domain_text kind) (problem_text kind n start)) r → result ≡ refusal_status r
    → out' ≡ out →
    IsLinePut (outcome_of r).line err err' → RunEnds (Make kind n start) shelf shelf out out' err err' result
unmade_run kind n start shelf out out' err err' result r why status same line =
    subst (RunEnds (Make kind n start) shelf shelf out out' err err') (sym status)
    (refused_run (Make kind n start) shelf shelf out out' err err' r
    (unmade kind n start shelf r why) same line)

-- no role is the last of none
none_last : (count : ℕ) (role : FileRole) → EndsWith (take count []) role → ⊥
none_last zero role (before, is) = filled before is
  where
    filled : (before : List FileRole) → [] ≡ before ++ role ∷ [] → ⊥
    filled [] e = cc e
    filled (first ∷ rest) e = cc e
none_last (suc count) role (before, is) = filled before is
  where
    filled : (before : List FileRole) → [] ≡ before ++ role ∷ [] → ⊥
    filled [] e = cc e
    filled (first ∷ rest) e = cc e

-- a request without files doesn't end with status 4
pub no_reading : (request : Request) (shelf shelf' : ShelfSeen) (out out' err err' : SinkSeen) (result : ℕ) →
    RunEnds request shelf shelf' out out' err err' result → names_of request ≡ [] → result ≢ 4
no_reading (Validate domain problem plan) shelf shelf' out out' err err' result h none four = cc none
no_reading (Successors domain problem options) shelf shelf' out out' err err' result h none four = cc none
no_reading (FindPlan domain problem options) shelf shelf' out out' err err' result h none four = cc none
no_reading (Make kind n start) shelf shelf' out out' err err' result h none four =
    let (role, line, last) = h.begun.last (sym h.status ∙ four) in none_last h.begun.count role last

-- a status that says nothing of the task
pub says_nothing : (result status : ℕ) → result ≡ status → status ≢ 0 → status ≢ 1 → status ≢ 6
    → IsOfTask result → ⊥
says_nothing result status is none one six (inl h) = none (sym is ∙ h)
says_nothing result status is none one six (inr (inl h)) = one (sym is ∙ h)
says_nothing result status is none one six (inr (inr h)) = six (sym is ∙ h)

-- a run of `make` that says something of the task says the truth
pub made_says : (kind : Kind) (n start : ℕ) (shelf shelf' : ShelfSeen) (out out' err err' : SinkSeen)
    (result : ℕ) →
    RunEnds (Make kind n start) shelf shelf' out out' err err' result → IsOfTask result
    → SaysOfMade kind n start out out' result
made_says kind n start shelf shelf' out out' err err' result h says =
    by_ending h.ending h.cause h.status h.text
  where
    by_made : (outcome : Outcome) → result ≡ outcome.status → Appends out.written out'.written outcome.text
        → IsMadeOf (domain_text kind) (problem_text kind n start) outcome
        → SaysOfMade kind n start out out' result
    by_made outcome status put (inl f) =
        absurd (says_nothing result 3 (status ∙ ap (λ (o : Outcome). o.status) f.comes) (λ e. cc e)
        (λ e. cc e) (λ e. cc e) says)
    by_made outcome status put (inr m) = record {
      task = m.task;
      stated = m.stated;
      truthful = made_truth m.task out out' m.made.ending m.made.stats outcome result m.made.searched
          m.made.comes status put;
    }

    by_ending : (ending : Ending) → IsCause (Make kind n start) shelf shelf' out out' ending
        → result ≡ status_of ending
        → IsWritten ending out out' → SaysOfMade kind n start out out' result
    by_ending (Answered outcome) cause status text = by_made outcome status text.whole cause
    by_ending (StoppedReading role) cause status text =
        absurd (says_nothing result 4 status (λ e. cc e) (λ e. cc) (λ e. cc) says)
    by_ending (StoppedWriting outcome) cause status text =
        absurd (says_nothing result 5 status (λ e. cc e) (λ e. cc e) (λ e. cc e) says)
    by_ending OutOfMemory cause status text =
        absurd (says_nothing result 8 status (λ e. cc e) (λ e. cc e) (λ e. cc e) says)

-- where few states are reachable a run of `make` settles whether a plan exists, or memory ran out
pub made_decides : TaskIsOne → (kind : Kind) (n start : ℕ) (shelf shelf' : ShelfSeen)
    (out out' err err' : SinkSeen) (result : ℕ) →
    RunEnds (Make kind n start) shelf shelf' out out' err err' result
    → IsDecisive (Make kind n start) shelf shelf' out out' result
made_decides task_one kind n start shelf shelf' out out' err err' result h sound writable task stated within =
    by_ending h.ending h.cause h.status h.text
  where
    by_made : (outcome : Outcome) → result ≡ outcome.status → Appends out.written out'.written outcome.text
        → IsMadeOf (domain_text kind) (problem_text kind n start) outcome → IsMadeSettled task out out' result
        ⊎ (result ≡ 8)
    by_made outcome status put (inl f) = absurd (sound f.found f.is_first)
    by_made outcome status put (inr m) =
        let same = task_one (domain_text kind) (problem_text kind n start) m.task task m.stated stated in
        let made : IsMadeOutcome task outcome = subst (λ t. IsMadeOutcome t outcome) same m.made in
        inl (made_settled task out out' made.ending made.stats outcome result made.searched made.comes status
        put within)

    by_ending : (ending : Ending) → IsCause (Make kind n start) shelf shelf' out out' ending
        → result ≡ status_of ending
        → IsWritten ending out out' → IsMadeSettled task out out' result ⊎ (result ≡ 8)
    by_ending (Answered outcome) cause status text = by_made outcome status text.whole cause
    by_ending (StoppedReading role) cause status text = absurd (cc cause.1.named)
    by_ending (StoppedWriting outcome) cause status text = absurd (writable cause.1)
    by_ending OutOfMemory cause status text = inr status
