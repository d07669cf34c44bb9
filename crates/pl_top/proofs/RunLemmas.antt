-- How a run ends, from what its parts did; without a fault it has its answer, or memory ran out.
use Rattle.std.proofs.Common.{◌≡◌, ◌≢◌, ℕ, ◌≤◌, Bool, true, cond, List, [], length, Option, Some, None, ◌⊎◌}
use Rattle.std.proofs.Common.{inl, inr, refl, sym, ◌∙◌, ap, subst, nat_le, append-nil, arith, IfSome}
use Rattle.std.proofs.lemmas.Bool.{le-leb}
use Rattle.std.specs.Io.KnownBytes.{Appends}
use Rattle.std.proofs.KnownBytes.{Appends-nil}
use Rattle.pl_io.specs.Outside.{NamedBytes, ShelfSeen, SinkSeen, AppendsFront, Rose, content_of}
use Rattle.pl_io.specs.Outside.{most_file_bytes}
use Rattle.pl_valid.specs.declared.verdict.Verdict.{Verdict}
use Rattle.pl_valid.specs.declared.verdict.Verdict.TheVariants.{Valid, Invalid, GoalMissed}
use Rattle.pl_top.specs.declared.refusal.Refusal.{Refusal}
use Rattle.pl_top.specs.declared.refusal.Refusal.TheVariants as refused
use Rattle.pl_check.specs.declared.role.FileRole.{FileRole}
use Rattle.pl_check.specs.declared.role.FileRole.TheVariants.{Domain, Problem, Plan}
use Rattle.pl_top.specs.Answer.{Outcome, Whole, Overlong, reading_of, GoesOn, IsRead, IsAnswer, IsJudged}
use Rattle.pl_top.specs.Answer.{IsListed, IsWorked, IsFaultOfAny, IsNoStep, IsPlanRead, IsPlanned}
use Rattle.pl_top.specs.Answer.{IsMadeOf, verdict_outcome}
use Rattle.pl_top.specs.Refusal.{outcome_of, HasBegun, IsForced, IsOfLast, IsRefused}
use Rattle.pl_make.specs.declared.kind.Kind.{Kind}
use Rattle.pl_make.specs.Texts.{domain_text, problem_text}
use Rattle.pl_top.specs.Request.{Request, PlanOptions, Validate, Successors, FindPlan, Make}
use Rattle.pl_top.specs.Writing.{Writes}
use Rattle.pl_top.specs.Run.{Ending, RunEnds, IsCause, AreFaultless, AreSound, AreTold, IsFaultlessPlan}
use Rattle.pl_top.specs.Run.{IsStepOfStated, EndsWith, status_of, Answered, StoppedReading, StoppedWriting}
use Rattle.pl_top.specs.Run.{OutOfMemory, IsPut, IsLinePut, IsStatusOf, IsComplete}
use Rattle.pl_top.proofs.PlannedLemmas.{ending_has_status}
use Rattle.pl_top.proofs.MadeLemmas.{made_has_status}
use Rattle.pl_task.specs.declared.plan.PlanLine.{PlanLine}
use Rattle.pl_task.specs.declared.task.Task.{Task}
use Rattle.pl_task.specs.Instance.{Instance}
use Rattle.pl_check.specs.FirstFault.{IsFirstFault}
use Rattle.pl_check.specs.Stated.{AreStated}
use Rattle.pl_check.specs.PlanLines.{IsPlanFault}
use Rattle.pl_check.specs.declared.fault.InputFault.{InputFault}
use Rattle.pl_print.specs.Texts.{fault_text}
use Rattle.pl_print.specs.declared.fault.Fault.TheVariants as fault

-- at most, as the test
eq-le : (m n : ℕ) → m ≤ n → nat_le m n ≡ true
eq-le m n h = le-leb m n h

-- a refusal has no text for `out`
no_text : (r : Refusal) → (outcome_of r).text ≡ []
no_text r = refl

-- nothing was put
put_nothing : (text : List ℕ) (out out' : SinkSeen) → text ≡ [] → out' ≡ out → IsPut text out out'
put_nothing text out out' none same = record {
  whole = subst (λ t. Appends out.written out'.written t) (sym none)
      (subst (λ (s : SinkSeen). Appends out.written s.written []) (sym same) (Appends-nil out.written));
  untouched = λ _. same;
}

-- no line was put
no_line : (err err' : SinkSeen) → err' ≡ err → IsLinePut [] err err'
no_line err err' same =
    subst (λ (s : SinkSeen). IsLinePut [] err s) (sym same) (record {
      front = nothing_put err.written;
      whole = inl (Appends-nil err.written);
      untouched = λ _. refl;
    })
  where
    nothing_put : (written : Option (List ℕ)) → AppendsFront written written []
    nothing_put None = tt
    nothing_put (Some bytes) = (0, omega arith, sym (append-nil bytes))

-- a refusal of status 4 names the file that was begun last
names_last : (r : Refusal) (roles : List FileRole) → IsOfLast roles r → (outcome_of r).status ≡ 4
    → (role : FileRole) × ((outcome_of r).line ≡ fault_text (fault.Read role)) × EndsWith roles role
names_last (refused.CannotRead role) roles last four = (role, refl, last)
names_last (refused.TooLong role) roles last four = absurd (cc four)
names_last (refused.Input file line column kind) roles last four = absurd (cc four)
names_last refused.NotAStep roles last four = absurd (cc four)
names_last (refused.Memory error) roles last four = absurd (cc four)

module _ (request : Request) (shelf shelf' : ShelfSeen) (out out' err err' : SinkSeen) where
  -- the answer, printed whole; a status of 4 is that of no printed answer
  pub printed : (count : ℕ) (outcome : Outcome) → HasBegun request count shelf shelf'
      → IsAnswer request shelf.files shelf'.place outcome → outcome.status ≢ 4
      → IsPut outcome.text out out' → IsLinePut outcome.line err err'
      → RunEnds request shelf shelf' out out' err err' outcome.status
  printed count outcome begun answer other put line = record {
    ending = Answered outcome;
    cause = answer;
    status = refl;
    text = put;
    line = line;
    files = begun.files;
    faults = begun.faults;
    begun = record { count = count; names = begun.names; last = λ four. absurd (other four) };
  }

  -- the answer, of which a front was printed
  pub cut_off : (count : ℕ) (outcome : Outcome) → HasBegun request count shelf shelf'
      → IsAnswer request shelf.files shelf'.place outcome → outcome.text ≢ []
      → Rose out.faults out'.faults → AppendsFront out.written out'.written outcome.text
      → IsLinePut (fault_text fault.Write) err err' → RunEnds request shelf shelf' out out' err err' 5
  cut_off count outcome begun answer some rose front line = record {
    ending = StoppedWriting outcome;
    cause = (answer, rose, some);
    status = refl;
    text = front;
    line = line;
    files = begun.files;
    faults = begun.faults;
    begun = record { count = count; names = begun.names; last = λ four. absurd (cc four) };
  }

  -- a refusal that is the answer
  answered : (r : Refusal) → IsRefused request shelf shelf' r
      → IsAnswer request shelf.files shelf'.place (outcome_of r) → out' ≡ out
      → IsLinePut (outcome_of r).line err err'
      → RunEnds request shelf shelf' out out' err err' (outcome_of r).status
  answered r h answer same line = record {
    ending = Answered (outcome_of r);
    cause = answer;
    status = refl;
    text = put_nothing (outcome_of r).text out out' (no_text r) same;
    line = line;
    files = h.begun.files;
    faults = h.begun.faults;
    begun = record { count = h.count; names = h.begun.names; last = names_last r _ h.last };
  }

  -- a refusal that was forced
  forced : (r : Refusal) → IsRefused request shelf shelf' r → IsForced request shelf shelf' r
      → out' ≡ out → IsLinePut (outcome_of r).line err err'
      → RunEnds request shelf shelf' out out' err err' (outcome_of r).status
  forced (refused.CannotRead role) h why same line = record {
    ending = StoppedReading role;
    cause = why;
    status = refl;
    text = same;
    line = line;
    files = h.begun.files;
    faults = h.begun.faults;
    begun = record { count = h.count; names = h.begun.names; last = λ _. (role, refl, h.last) };
  }
  forced (refused.TooLong role) h why same line = absurd why
  forced (refused.Input file row column kind) h why same line = absurd why
  forced refused.NotAStep h why same line = absurd why
  forced (refused.Memory error) h why same line = record {
    ending = OutOfMemory;
    cause = tt;
    status = refl;
    text = same;
    line = line;
    files = h.begun.files;
    faults = h.begun.faults;
    begun = record { count = h.count; names = h.begun.names; last = λ four. absurd (cc four) };
  }

  -- a refusal, with its line
  pub refused_run : (r : Refusal) → IsRefused request shelf shelf' r → out' ≡ out
      → IsLinePut (outcome_of r).line err err'
      → RunEnds request shelf shelf' out out' err err' (outcome_of r).status
  refused_run r h same line = elim h.cause [
    | inl answer ↦ answered r h answer same line
    | inr why ↦ forced r h why same line
  ]

-- a verdict's text has a byte, and its status isn't 4
pub verdict_text_some : (v : Verdict) → (verdict_outcome v).text ≢ []
verdict_text_some (Valid steps) none = cc none
verdict_text_some (Invalid line reason) none = cc none
verdict_text_some GoalMissed none = cc none

pub verdict_status_other : (v : Verdict) → (verdict_outcome v).status ≢ 4
verdict_status_other (Valid steps) four = cc four
verdict_status_other (Invalid line reason) four = cc four
verdict_status_other GoalMissed four = cc four

-- a text that was written, whole or in part, after its answer was found
pub written : (request : Request) (shelf shelf' : ShelfSeen) (out out' err err' : SinkSeen) (result count : ℕ)
    (outcome : Outcome) → HasBegun request count shelf shelf'
    → IsAnswer request shelf.files shelf'.place outcome
    → outcome.line ≡ [] → outcome.status ≢ 4 → Writes outcome.text outcome.status out out' err err' result
    → RunEnds request shelf shelf' out out' err err' result
written request shelf shelf' out out' err err' result count outcome begun answer none other (inl w) =
    subst (RunEnds request shelf shelf' out out' err err') (sym w.status_is)
    (printed request shelf shelf' out out' err err' count outcome begun answer other w.put
    (subst (λ l. IsLinePut l err err') (sym none) (no_line err err' w.quiet)))
written request shelf shelf' out out' err err' result count outcome begun answer none other (inr w) =
    subst (RunEnds request shelf shelf' out out' err err') (sym w.status_is)
    (cut_off request shelf shelf' out out' err err' count outcome begun answer w.some w.cause w.front w.line)

-- what is short reads as whole
pub short_reading : (bytes : List ℕ) (t : Bool) → t ≡ true → cond t (Whole bytes) Overlong ≡ Whole bytes
short_reading bytes t is = ap (λ b. cond b (Whole bytes) Overlong) is

-- a told file that is short is read whole
pub read_whole : (files : List NamedBytes) (place : ℕ) (name : List ℕ) (role : FileRole) (outcome : Outcome)
    (Further : List ℕ → Type 0) (bytes : List ℕ) → content_of files name ≡ Some bytes
    → length bytes ≤ most_file_bytes
    → IsRead (Some files) place name role outcome Further → Further bytes
read_whole files place name role outcome Further bytes told short h =
    let whole : h.reading ≡ Whole bytes =
    h.of_file ∙ ap reading_of told
    ∙ short_reading bytes (nat_le (length bytes) most_file_bytes)
    (eq-le (length bytes) most_file_bytes short) in
    subst (GoesOn role outcome Further) whole h.goes_on

-- status 0 or 1
abbrev IsVerdictStatus : ℕ → Type 0
IsVerdictStatus status = (status ≡ 0) ⊎ (status ≡ 1)

verdict_has_status : (v : Verdict) → IsVerdictStatus (verdict_outcome v).status
verdict_has_status (Valid steps) = inl refl
verdict_has_status (Invalid line reason) = inr refl
verdict_has_status GoalMissed = inr refl

-- files without a fault come to a verdict
judged_status : (domain problem plan : List ℕ) (outcome : Outcome)
    → ((found : InputFault) → IsFirstFault domain problem found → ⊥)
    → ((found : InputFault) → IsPlanFault plan found → ⊥)
    → IsJudged domain problem plan outcome → IsVerdictStatus outcome.status
judged_status domain problem plan outcome no_input no_plan (inl h) = absurd (no_input h.found h.is_first)
judged_status domain problem plan outcome no_input no_plan (inr h) = elim h.judged [
  | inl f ↦ absurd (no_plan f.found f.is_first)
  | inr v ↦ subst (λ (o : Outcome). IsVerdictStatus o.status) (sym v.comes) (verdict_has_status v.verdict)
]

-- the plan file has no fault
abbrev HasNoFault : List ℕ → Type 0
HasNoFault bytes = (found : InputFault) → IsPlanFault bytes found → ⊥

-- a plan file without a fault is read whole, where one is named
plan_known : (files : List NamedBytes) (place : ℕ) (after : Option (List ℕ)) (outcome : Outcome)
    (Further : Option (List ℕ) → Type 0) → IfSome after (IsFaultlessPlan files)
    → IsPlanRead (Some files) place after outcome Further → (l : Option (List ℕ)) × IfSome l HasNoFault
    × Further l
plan_known files place None outcome Further s h = (None, tt, h)
plan_known files place (Some name) outcome Further s h = (
  Some s.bytes,
  s.no_fault,
  read_whole files place name Plan outcome (λ bytes. Further (Some bytes)) s.bytes s.told s.short h,
)

-- a plan file without a fault isn't refused
no_fault_of_any : (plan : Option (List ℕ)) (outcome : Outcome) → IfSome plan HasNoFault
    → IsFaultOfAny plan outcome → ⊥
no_fault_of_any None outcome s h = h
no_fault_of_any (Some plan) outcome s h = s h.found h.is_first

-- a step isn't refused
no_refused_step : (domain problem : List ℕ) (task : Task) (text : Option (List ℕ)) (outcome : Outcome)
    → IfSome text (IsStepOfStated domain problem) → AreStated domain problem task → IsNoStep task text outcome
    → ⊥
no_refused_step domain problem task None outcome s stated h = h
no_refused_step domain problem task (Some text) outcome s stated h =
    let found = s task stated in
    h.0 found.0 found.1

-- a list or a verdict has its status
worked_status : (task : Task) (lines : List PlanLine) (past : Option Instance) (count : Option ℕ)
    (outcome : Outcome)
    → IsWorked task lines past count outcome → IsVerdictStatus outcome.status
worked_status task lines past count outcome (inl h) =
    subst (λ (o : Outcome). IsVerdictStatus o.status) (sym h.comes) (inr refl)
worked_status task lines past count outcome (inr h) =
    subst (λ (o : Outcome). IsVerdictStatus o.status) (sym h.comes) (inl refl)

-- files without a fault, and a step of their task, come to a list or a verdict
listed_status : (domain problem : List ℕ) (plan text : Option (List ℕ)) (count : Option ℕ) (outcome : Outcome)
    → ((found : InputFault) → IsFirstFault domain problem found → ⊥) → IfSome plan HasNoFault
    → IfSome text (IsStepOfStated domain problem)
    → IsListed domain problem plan text count outcome → IsVerdictStatus outcome.status
listed_status domain problem plan text count outcome no_input no_plan step (inl h) =
    absurd (no_input h.found h.is_first)
listed_status domain problem plan text count outcome no_input no_plan step (inr h) = elim h.listed [
  | inl f ↦ absurd (no_fault_of_any plan outcome no_plan f)
  | inr l ↦ elim l.comes [
    | inl none ↦ absurd (no_refused_step domain problem h.task text outcome step h.stated none)
    | inr p ↦ worked_status h.task l.lines p.past count outcome p.worked
  ]
]

-- files without a fault come to how a search of their task ends
planned_status : (domain problem : List ℕ) (options : PlanOptions) (outcome : Outcome)
    → ((found : InputFault) → IsFirstFault domain problem found → ⊥)
    → IsPlanned domain problem options outcome → IsStatusOf (FindPlan domain problem options) outcome.status
planned_status domain problem options outcome no_input (inl h) = absurd (no_input h.found h.is_first)
planned_status domain problem options outcome no_input (inr h) =
    subst (λ (o : Outcome). IsStatusOf (FindPlan domain problem options) o.status) (sym h.planned.comes)
    (ending_has_status h.task options h.planned.ending h.planned.stats h.planned.searched)

-- texts without a fault come to how a search of their task ends
made_status : (kind : Kind) (n start : ℕ) (outcome : Outcome) → AreSound kind n start
    → IsMadeOf (domain_text kind) (problem_text kind n start) outcome
    → IsStatusOf (Make kind n start) outcome.status
made_status kind n start outcome sound (inl h) = absurd (sound h.found h.is_first)
made_status kind n start outcome sound (inr h) =
    made_has_status h.task h.made.ending h.made.stats outcome h.made.searched h.made.comes

-- the answer to a request without a fault has one of its statuses
answer_status : (request : Request) (files : List NamedBytes) (place : ℕ) (outcome : Outcome)
    → AreFaultless request files → IsAnswer request (Some files) place outcome
    → IsStatusOf request outcome.status
answer_status (Validate domain problem plan) files place outcome s answer =
    let first = read_whole files place domain Domain outcome _ s.domain_bytes s.domain_told s.domain_short
    answer in
    let two = read_whole files place problem Problem outcome _ s.problem_bytes s.problem_told s.problem_short
    first in
    let three = read_whole files place plan Plan outcome _ s.plan_bytes s.plan_told s.plan_short two in
    judged_status s.domain_bytes s.problem_bytes s.plan_bytes outcome s.no_input_fault s.no_plan_fault three
answer_status (Successors domain problem options) files place outcome s answer =
    let first = read_whole files place domain Domain outcome _ s.domain_bytes s.domain_told s.domain_short
    answer in
    let two = read_whole files place problem Problem outcome _ s.problem_bytes s.problem_told s.problem_short
    first in
    let plan = plan_known files place options.after outcome _ s.plan two in
    listed_status s.domain_bytes s.problem_bytes plan.0 options.past options.count outcome s.no_input_fault
    plan.1 s.past plan.2
answer_status (FindPlan domain problem options) files place outcome s answer =
    let first = read_whole files place domain Domain outcome _ s.domain_bytes s.domain_told s.domain_short
    answer in
    let two = read_whole files place problem Problem outcome _ s.problem_bytes s.problem_told s.problem_short
    first in
    planned_status s.domain_bytes s.problem_bytes options outcome s.no_input_fault two
answer_status (Make kind n start) files place outcome s answer = made_status kind n start outcome s answer

-- the answer to a request is that over the files that it is told
over_told : (request : Request) (shelf : ShelfSeen) (files : List NamedBytes) (place : ℕ) (outcome : Outcome)
    → AreTold request shelf files → IsAnswer request shelf.files place outcome
    → IsAnswer request (Some files) place outcome
over_told (Validate domain problem plan) shelf files place outcome told answer =
    subst (λ f. IsAnswer (Validate domain problem plan) f place outcome) told answer
over_told (Successors domain problem options) shelf files place outcome told answer =
    subst (λ f. IsAnswer (Successors domain problem options) f place outcome) told answer
over_told (FindPlan domain problem options) shelf files place outcome told answer =
    subst (λ f. IsAnswer (FindPlan domain problem options) f place outcome) told answer
over_told (Make kind n start) shelf files place outcome told answer = answer

-- without a fault a run has its answer, or memory ran out
pub run_complete : (request : Request) (shelf shelf' : ShelfSeen) (out out' err err' : SinkSeen) (result : ℕ)
    → RunEnds request shelf shelf' out out' err err' result → IsComplete request shelf shelf' out out' result
run_complete request shelf shelf' out out' err err' result h files told faultless readable writable =
    by_ending h.ending h.cause h.status
  where
    by_ending : (ending : Ending) → IsCause request shelf shelf' out out' ending → result ≡ status_of ending
        → IsStatusOf request result ⊎ (result ≡ 8)
    by_ending (Answered outcome) cause status =
        let answer = over_told request shelf files shelf'.place outcome told cause in
        inl (subst (IsStatusOf request) (sym status)
        (answer_status request files shelf'.place outcome faultless answer))
    by_ending (StoppedReading role) cause status = absurd (readable cause.0)
    by_ending (StoppedWriting outcome) cause status = absurd (writable cause.1)
    by_ending OutOfMemory cause status = inr status
