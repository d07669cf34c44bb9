-- What a run of `plan` says of the task of its files.
use Rattle.std.proofs.Common.{◌≡◌, ◌⊎◌, ℕ, List, inl, inr, ◌∙◌, ap, subst}
use Rattle.std.specs.Io.KnownBytes.{Appends}
use Rattle.pl_io.specs.Outside.{ShelfSeen, SinkSeen}
use Rattle.pl_check.specs.Laws.{TaskIsOne}
use Rattle.pl_check.specs.Stated.{AreStated}
use Rattle.pl_check.specs.declared.role.FileRole.{FileRole}
use Rattle.pl_check.specs.declared.role.FileRole.TheVariants.{Domain, Problem}
use Rattle.pl_task.specs.declared.task.Task.{Task}
use Rattle.pl_top.specs.Answer.{Outcome, Reading, Absent, Overlong, Whole, IsReadingOf, GoesOn, IsRead}
use Rattle.pl_top.specs.Answer.{IsAnswer, IsPlanned, IsTaskPlanned, IsSearchOutcome}
use Rattle.pl_top.specs.Planning.{AreReachableWithin, IfSays, IsDecisive, IsOfTask, IsSettled, SaysOfTask}
use Rattle.pl_top.specs.Request.{Request, PlanOptions, Validate, Successors, FindPlan, Make}
use Rattle.pl_top.specs.Run.{Ending, RunEnds, IsCause, IsWritten, status_of, Answered, StoppedReading}
use Rattle.pl_top.specs.Run.{StoppedWriting, OutOfMemory}
use Rattle.pl_top.specs.Searching.{limit_of, search_text}
use Rattle.pl_top.proofs.PlannedLemmas.{truth_of, settled}
use Rattle.pl_top.proofs.MadeRunLemmas.{says_nothing, made_says, made_decides}
use Rattle.pl_top.proofs.RunLemmas.{read_whole}

-- the text and the status of an outcome of a search
text_of : (task : Task) (options : PlanOptions) (out out' : SinkSeen) (outcome : Outcome)
    → Appends out.written out'.written outcome.text →
    (h : IsSearchOutcome task options outcome) → Appends out.written out'.written
    (search_text task options h.ending h.stats)
text_of task options out out' outcome put h = subst (λ (o : Outcome). Appends out.written out'.written o.text)
    h.comes put

module _ (domain problem : List ℕ) (options : PlanOptions) (shelf shelf' : ShelfSeen) (out out' : SinkSeen)
    (result : ℕ)
    (says : IsOfTask result) (outcome : Outcome) (status : result ≡ outcome.status)
    (put : Appends out.written out'.written outcome.text) where
  -- the reading goes on where the run says something of the task
  read_on : {P : Type 0} (name : List ℕ) (role : FileRole) (F : List ℕ → Type 0)
      → ((bytes : List ℕ) → IsReadingOf shelf.files shelf'.place name (Whole bytes) → F bytes → P)
      → (reading : Reading) → IsReadingOf shelf.files shelf'.place name reading
      → GoesOn role outcome F reading → P
  read_on name role F further Absent of is =
      absurd (says_nothing result 4 (status ∙ ap (λ (o : Outcome). o.status) is) (λ e. cc e) (λ e. cc e)
      (λ e. cc e) says)
  read_on name role F further Overlong of is =
      absurd (says_nothing result 3 (status ∙ ap (λ (o : Outcome). o.status) is) (λ e. cc e) (λ e. cc e)
      (λ e. cc e) says)
  read_on name role F further (Whole bytes) of is = further bytes of is

  planned : (d p : List ℕ) → IsReadingOf shelf.files shelf'.place domain (Whole d)
      → IsReadingOf shelf.files shelf'.place problem (Whole p) → IsPlanned d p options outcome
      → SaysOfTask domain problem options shelf shelf' out out' result
  planned d p first second (inl h) =
      absurd (says_nothing result 3 (status ∙ ap (λ (o : Outcome). o.status) h.comes) (λ e. cc e) (λ e. cc e)
      (λ e. cc e) says)
  planned d p first second (inr h) = record {
    domain_bytes = d;
    problem_bytes = p;
    domain_read = first;
    problem_read = second;
    task = h.task;
    stated = h.stated;
    truthful = truth_of h.task options out out' h.planned.ending h.planned.stats result h.planned.searched
        (text_of h.task options out out' outcome put h.planned)
        (status ∙ ap (λ (o : Outcome). o.status) h.planned.comes);
  }

  answered : IsAnswer (FindPlan domain problem options) shelf.files shelf'.place outcome
      → SaysOfTask domain problem options shelf shelf' out out' result
  answered h =
      read_on domain Domain
      (λ d. IsRead shelf.files shelf'.place problem Problem outcome (λ p. IsPlanned d p options outcome))
      (λ d first more. read_on problem Problem (λ p. IsPlanned d p options outcome)
      (λ p second. planned d p first second)
      more.reading more.of_file more.goes_on)
      h.reading h.of_file h.goes_on

-- a run of `plan` that says something of the task says the truth
plan_says : (domain problem : List ℕ) (options : PlanOptions) (shelf shelf' : ShelfSeen)
    (out out' err err' : SinkSeen) (result : ℕ)
    → RunEnds (FindPlan domain problem options) shelf shelf' out out' err err' result → IsOfTask result
    → SaysOfTask domain problem options shelf shelf' out out' result
plan_says domain problem options shelf shelf' out out' err err' result h says =
    by_ending h.ending h.cause h.status h.text
  where
    by_ending : (ending : Ending) → IsCause (FindPlan domain problem options) shelf shelf' out out' ending
        → result ≡ status_of ending
        → IsWritten ending out out' → SaysOfTask domain problem options shelf shelf' out out' result
    by_ending (Answered outcome) cause status text =
        answered domain problem options shelf shelf' out out' result says outcome status text.whole cause
    by_ending (StoppedReading role) cause status text =
        absurd (says_nothing result 4 status (λ e. cc e) (λ e. cc e) (λ e. cc e) says)
    by_ending (StoppedWriting outcome) cause status text =
        absurd (says_nothing result 5 status (λ e. cc e) (λ e. cc e) (λ e. cc e) says)
    by_ending OutOfMemory cause status text =
        absurd (says_nothing result 8 status (λ e. cc e) (λ e. cc e) (λ e. cc e) says)

pub run_says : (request : Request) (shelf shelf' : ShelfSeen) (out out' err err' : SinkSeen) (result : ℕ)
    → RunEnds request shelf shelf' out out' err err' result → IfSays request shelf shelf' out out' result
run_says (Validate domain problem plan) shelf shelf' out out' err err' result h = tt
run_says (Successors domain problem options) shelf shelf' out out' err err' result h = tt
run_says (FindPlan domain problem options) shelf shelf' out out' err err' result h =
    plan_says domain problem options shelf shelf' out out' err err' result h
run_says (Make kind n start) shelf shelf' out out' err err' result h =
    made_says kind n start shelf shelf' out out' err err' result h

-- how a search of the task ends settles whether a plan exists
planned_settled : TaskIsOne → (domain problem : List ℕ) (options : PlanOptions) (out out' : SinkSeen)
    (result : ℕ) (outcome : Outcome)
    → result ≡ outcome.status → Appends out.written out'.written outcome.text
    → (task : Task) → AreStated domain problem task → AreReachableWithin task (limit_of options)
    → IsTaskPlanned domain problem options outcome
    → IsSettled task options out out' result
planned_settled task_one domain problem options out out' result outcome status put task stated within h =
    let same = task_one domain problem h.task task h.stated stated in
    let searched : IsSearchOutcome task options outcome =
    subst (λ t. IsSearchOutcome t options outcome) same h.planned in
    settled task options out out' searched.ending searched.stats result searched.searched
    (text_of task options out out' outcome put searched)
    (status ∙ ap (λ (o : Outcome). o.status) searched.comes) within

-- without a fault, and with few reachable states, a run of `plan` settles whether a plan exists, or memory
-- ran out
plan_decides : TaskIsOne → (domain problem : List ℕ) (options : PlanOptions) (shelf shelf' : ShelfSeen)
    (out out' err err' : SinkSeen) (result : ℕ)
    → RunEnds (FindPlan domain problem options) shelf shelf' out out' err err' result
    → IsDecisive (FindPlan domain problem options) shelf shelf' out out' result
plan_decides task_one domain problem options shelf shelf' out out' err err' result h files is told readable
    writable task stated within =
    by_ending h.ending h.cause h.status h.text
  where
    by_plan : (outcome : Outcome) → result ≡ outcome.status → Appends out.written out'.written outcome.text
        → IsPlanned told.domain_bytes told.problem_bytes options outcome
        → IsSettled task options out out' result ⊎ (result ≡ 8)
    by_plan outcome status put (inl f) = absurd (told.no_input_fault f.found f.is_first)
    by_plan outcome status put (inr p) =
        inl (planned_settled task_one told.domain_bytes told.problem_bytes options out out' result outcome
        status put task stated within
        p)

    by_ending : (ending : Ending) → IsCause (FindPlan domain problem options) shelf shelf' out out' ending
        → result ≡ status_of ending
        → IsWritten ending out out' → IsSettled task options out out' result ⊎ (result ≡ 8)
    by_ending (Answered outcome) cause status text =
        (let answer = subst (λ f. IsAnswer (FindPlan domain problem options) f shelf'.place outcome) is
        cause in
        let first = read_whole files shelf'.place domain Domain outcome _ told.domain_bytes told.domain_told
        told.domain_short answer in
        by_plan outcome status text.whole
        (read_whole files shelf'.place problem Problem outcome _ told.problem_bytes told.problem_told
        told.problem_short first))
    by_ending (StoppedReading role) cause status text = absurd (readable cause.0)
    by_ending (StoppedWriting outcome) cause status text = absurd (writable cause.1)
    by_ending OutOfMemory cause status text = inr status

pub run_decides : TaskIsOne → (request : Request) (shelf shelf' : ShelfSeen) (out out' err err' : SinkSeen)
    (result : ℕ)
    → RunEnds request shelf shelf' out out' err err' result → IsDecisive request shelf shelf' out out' result
run_decides task_one (Validate domain problem plan) shelf shelf' out out' err err' result h = tt
run_decides task_one (Successors domain problem options) shelf shelf' out out' err err' result h = tt
run_decides task_one (FindPlan domain problem options) shelf shelf' out out' err err' result h =
    plan_decides task_one domain problem options shelf shelf' out out' err err' result h
run_decides task_one (Make kind n start) shelf shelf' out out' err err' result h =
    made_decides task_one kind n start shelf shelf' out out' err err' result h
