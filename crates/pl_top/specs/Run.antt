-- What a run says and leaves: the contract of the top call.
use Rattle.std.specs.Prelude.{◌≡◌, ◌≢◌, ℕ, ◌≤◌, ◌⊎◌, List, [], ◌∷◌, ◌++◌, take, length, Some, ⊤, IfSome}
use Rattle.std.specs.Io.KnownBytes.{Appends}
use Rattle.pl_io.specs.Outside.{NamedBytes, ShelfSeen, SinkSeen, content_of, most_file_bytes, AppendsFront}
use Rattle.pl_io.specs.Outside.{BegunThen, Rose}
use Rattle.pl_check.specs.FirstFault.{IsFirstFault}
use Rattle.pl_check.specs.PlanLines.{IsPlanFault, IsStepText}
use Rattle.pl_check.specs.Stated.{AreStated}
use Rattle.pl_check.specs.declared.fault.InputFault.{InputFault}
use Rattle.pl_task.specs.declared.task.Task.{Task}
use Rattle.pl_task.specs.Instance.{Instance}
use Rattle.pl_print.specs.Texts.{fault_text}
use Rattle.pl_print.specs.declared.fault.Fault.TheVariants as fault
use Rattle.pl_check.specs.declared.role.FileRole.{FileRole}
use Rattle.pl_top.specs.Answer.{Outcome, IsAnswer}
use Rattle.pl_registry.specs.declared.search.Search.{Search}
use Rattle.pl_registry.specs.declared.search.Search.TheVariants as search
use Rattle.pl_make.specs.declared.kind.Kind.{Kind}
use Rattle.pl_make.specs.Texts.{domain_text, problem_text}
use Rattle.pl_top.specs.Request.{Request, Options, Validate, Successors, FindPlan, Make, name_of, names_of}
use Rattle.pl_top.specs.Request.{roles_of}
use Rattle.pl_top.specs.Searching.{search_of}

-- how a run ends: with its answer, stopped as it read a file, stopped as it wrote its answer, or out of
-- memory
pub data Ending : Type 0 where
  Answered : Outcome → Ending
  StoppedReading : FileRole → Ending
  StoppedWriting : Outcome → Ending
  OutOfMemory : Ending

-- the request has a file of this role; where a told file is at hand, it is that one
pub record IsTied (request : Request) (role : FileRole) (shelf : ShelfSeen) : Type 0 where
  pub name : List ℕ
  pub named : name_of request role ≡ Some name
  pub at_hand : IfSome shelf.files (λ _. IfSome shelf.current (λ current. current ≡ name))

-- why each ending comes: an answer is the request's answer, each stop has its counted fault, and memory may
-- always run out
abbrev pub IsCause : Request → ShelfSeen → ShelfSeen → SinkSeen → SinkSeen → Ending → Type 0
IsCause request shelf shelf' out out' (Answered outcome) = IsAnswer request shelf.files shelf'.place outcome
IsCause request shelf shelf' out out' (StoppedReading role) = Rose shelf.faults shelf'.faults
    × IsTied request role shelf'
IsCause request shelf shelf' out out' (StoppedWriting outcome) =
    IsAnswer request shelf.files shelf'.place outcome × Rose out.faults out'.faults × (outcome.text ≢ [])
IsCause request shelf shelf' out out' OutOfMemory = ⊤

-- the status of an ending
abbrev pub status_of : Ending → ℕ
status_of (Answered outcome) = outcome.status
status_of (StoppedReading role) = 4
status_of (StoppedWriting outcome) = 5
status_of OutOfMemory = 8

-- the line of an ending
abbrev pub line_of : Ending → List ℕ
line_of (Answered outcome) = outcome.line
line_of (StoppedReading role) = fault_text (fault.Read role)
line_of (StoppedWriting outcome) = fault_text fault.Write
line_of OutOfMemory = fault_text fault.Memory

-- the whole text was appended; of an empty text the sink saw nothing
pub record IsPut (text : List ℕ) (old new : SinkSeen) : Type 0 where
  pub whole : Appends old.written new.written text
  pub untouched : text ≡ [] → new ≡ old

-- an answer's text is written whole, a stopped one in part, and any other ending leaves `out` as it was
abbrev pub IsWritten : Ending → SinkSeen → SinkSeen → Type 0
IsWritten (Answered outcome) out out' = IsPut outcome.text out out'
IsWritten (StoppedReading role) out out' = out' ≡ out
IsWritten (StoppedWriting outcome) out out' = AppendsFront out.written out'.written outcome.text
IsWritten OutOfMemory out out' = out' ≡ out

-- a front of the line was appended, and the whole line unless the sink failed
pub record IsLinePut (line : List ℕ) (old new : SinkSeen) : Type 0 where
  pub front : AppendsFront old.written new.written line
  pub whole : Appends old.written new.written line ⊎ Rose old.faults new.faults
  pub untouched : line ≡ [] → new ≡ old

-- the list has this member last
abbrev pub EndsWith : List FileRole → FileRole → Type 0
EndsWith roles role = (before : List FileRole) × (roles ≡ before ++ role ∷ [])

-- The first `count` files of the request were begun, each once, and no other name. Where the status is 4, the
-- line names the file that was begun last.
pub record AreBegun (request : Request) (shelf shelf' : ShelfSeen) (ending : Ending) : Type 0 where
  pub count : ℕ
  pub names : BegunThen shelf.begun (take count (names_of request)) shelf'.begun
  pub last : status_of ending ≡ 4
      → (role : FileRole) × (line_of ending ≡ fault_text (fault.Read role))
      × EndsWith (take count (roles_of request)) role

-- a run of a request, from what shelf and sinks told before it to what they tell after it
pub record RunEnds (request : Request) (shelf shelf' : ShelfSeen) (out out' err err' : SinkSeen)
    (result : ℕ) : Type 0 where
  pub ending : Ending
  pub cause : IsCause request shelf shelf' out out' ending
  pub status : result ≡ status_of ending
  pub text : IsWritten ending out out'
  pub line : IsLinePut (line_of ending) err err'
  pub files : shelf'.files ≡ shelf.files
  pub faults : shelf.faults ≤ shelf'.faults
  pub begun : AreBegun request shelf shelf' ending

-- what holds of a request that takes no probe
abbrev pub IfProbeless : Request → Type 0 → Type 0
IfProbeless (Validate domain problem plan) fact = fact
IfProbeless (Successors domain problem options) fact = ⊤
IfProbeless (FindPlan domain problem options) fact = ⊤
IfProbeless (Make kind n start) fact = ⊤

-- told files that are all there, are short enough, and have no fault
pub record AreJudgeable (files : List NamedBytes) (domain problem plan : List ℕ) : Type 0 where
  pub domain_bytes : List ℕ
  pub problem_bytes : List ℕ
  pub plan_bytes : List ℕ
  pub domain_told : content_of files domain ≡ Some domain_bytes
  pub problem_told : content_of files problem ≡ Some problem_bytes
  pub plan_told : content_of files plan ≡ Some plan_bytes
  pub domain_short : length domain_bytes ≤ most_file_bytes
  pub problem_short : length problem_bytes ≤ most_file_bytes
  pub plan_short : length plan_bytes ≤ most_file_bytes
  pub no_input_fault : (found : InputFault) → IsFirstFault domain_bytes problem_bytes found → ⊥
  pub no_plan_fault : (found : InputFault) → IsPlanFault plan_bytes found → ⊥

-- the plan file of that name is told, is short enough, and has no fault
pub record IsFaultlessPlan (files : List NamedBytes) (name : List ℕ) : Type 0 where
  pub bytes : List ℕ
  pub told : content_of files name ≡ Some bytes
  pub short : length bytes ≤ most_file_bytes
  pub no_fault : (found : InputFault) → IsPlanFault bytes found → ⊥

-- the text is a step of the task that domain and problem state
abbrev pub IsStepOfStated : List ℕ → List ℕ → List ℕ → Type 0
IsStepOfStated domain problem text = (task : Task) → AreStated domain problem task → (step : Instance)
    × IsStepText text task step

-- told files that are all there, are short enough, and have no fault, and a step of their task where a text
-- is given
pub record AreListable (files : List NamedBytes) (domain problem : List ℕ) (options : Options) : Type 0 where
  pub domain_bytes : List ℕ
  pub problem_bytes : List ℕ
  pub domain_told : content_of files domain ≡ Some domain_bytes
  pub problem_told : content_of files problem ≡ Some problem_bytes
  pub domain_short : length domain_bytes ≤ most_file_bytes
  pub problem_short : length problem_bytes ≤ most_file_bytes
  pub no_input_fault : (found : InputFault) → IsFirstFault domain_bytes problem_bytes found → ⊥
  pub plan : IfSome options.after (IsFaultlessPlan files)
  pub past : IfSome options.past (IsStepOfStated domain_bytes problem_bytes)

-- told files that are both there, are short enough, and have no fault
pub record ArePlannable (files : List NamedBytes) (domain problem : List ℕ) : Type 0 where
  pub domain_bytes : List ℕ
  pub problem_bytes : List ℕ
  pub domain_told : content_of files domain ≡ Some domain_bytes
  pub problem_told : content_of files problem ≡ Some problem_bytes
  pub domain_short : length domain_bytes ≤ most_file_bytes
  pub problem_short : length problem_bytes ≤ most_file_bytes
  pub no_input_fault : (found : InputFault) → IsFirstFault domain_bytes problem_bytes found → ⊥

-- the texts of a made task have no fault
abbrev pub AreSound : Kind → ℕ → ℕ → Type 0
AreSound kind n start = (found : InputFault) → IsFirstFault (domain_text kind)
    (problem_text kind n start) found → ⊥

-- the shelf tells these files; where nothing is read of it, it need not tell any
abbrev pub AreTold : Request → ShelfSeen → List NamedBytes → Type 0
AreTold (Validate domain problem plan) shelf files = shelf.files ≡ Some files
AreTold (Successors domain problem options) shelf files = shelf.files ≡ Some files
AreTold (FindPlan domain problem options) shelf files = shelf.files ≡ Some files
AreTold (Make kind n start) shelf files = ⊤

-- the told files, or the made texts, have nothing for which the request would be refused
abbrev pub AreFaultless : Request → List NamedBytes → Type 0
AreFaultless (Validate domain problem plan) files = AreJudgeable files domain problem plan
AreFaultless (Successors domain problem options) files = AreListable files domain problem options
AreFaultless (FindPlan domain problem options) files = ArePlannable files domain problem
AreFaultless (Make kind n start) files = AreSound kind n start

-- only width searches are exhausted
abbrev pub IsWidthSearch : Search → Type 0
IsWidthSearch search.Bfs = ⊥
IsWidthSearch search.Gbfs = ⊥
IsWidthSearch search.Iw1 = ⊤
IsWidthSearch search.Iw2 = ⊤

-- the statuses of a request that is not refused
abbrev pub IsStatusOf : Request → ℕ → Type 0
IsStatusOf (Validate domain problem plan) status = (status ≡ 0) ⊎ (status ≡ 1)
IsStatusOf (Successors domain problem options) status = (status ≡ 0) ⊎ (status ≡ 1)
IsStatusOf (FindPlan domain problem options) status =
    (status ≡ 0) ⊎ (status ≡ 1) ⊎ (status ≡ 6) ⊎ (IsWidthSearch (search_of options) × (status ≡ 7))
IsStatusOf (Make kind n start) status = (status ≡ 0) ⊎ (status ≡ 1) ⊎ (status ≡ 6)

-- Where the files are told and without a fault, and neither the shelf nor `out` failed, a run has its answer
-- or runs out of memory. A made task needs no file.
abbrev pub IsComplete : Request → ShelfSeen → ShelfSeen → SinkSeen → SinkSeen → ℕ → Type 0
IsComplete request shelf shelf' out out' result =
    (files : List NamedBytes) → AreTold request shelf files → AreFaultless request files →
    (Rose shelf.faults shelf'.faults → ⊥) → (Rose out.faults out'.faults → ⊥) →
    IsStatusOf request result ⊎ (result ≡ 8)
