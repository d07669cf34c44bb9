-- What ends a run before it has an answer to print.
use Rattle.std.specs.Prelude.{◌≡◌, ℕ, ◌≤◌, ◌⊎◌, List, [], ◌∷◌, take, length, Option, Some, None, ⊤}
use Rattle.pl_io.specs.Outside.{NamedBytes, ShelfSeen, BegunThen, IsAtHand, Rose, most_file_bytes}
use Rattle.pl_text.specs.Lines.{line_of, column_of}
use Rattle.pl_check.specs.declared.fault.InputFault.{InputFault}
use Rattle.pl_top.specs.declared.refusal.Refusal.{Refusal}
use Rattle.pl_top.specs.declared.refusal.Refusal.TheVariants.{CannotRead, TooLong, Input, NotAStep, Memory}
use Rattle.pl_check.specs.declared.role.FileRole.{FileRole}
use Rattle.pl_check.specs.declared.role.FileRole.TheVariants.{Plan}
use Rattle.pl_top.specs.Answer.{Outcome, refusal, IsAnswer, IsJudged, IsReadingOf, Absent, Overlong, Whole}
use Rattle.pl_top.specs.Request.{Request, names_of, roles_of}
use Rattle.pl_top.specs.Run.{IsTied, EndsWith}
use Rattle.pl_print.specs.declared.fault.Fault.{Fault}
use Rattle.pl_print.specs.declared.fault.Fault.TheVariants as fault

-- the fault that is printed
abbrev pub fault_of : Refusal → Fault
fault_of (CannotRead role) = fault.Read role
fault_of (TooLong role) = fault.TooLong role
fault_of (Input file line column kind) = fault.Input file line column kind
fault_of NotAStep = fault.NotAStep
fault_of (Memory error) = fault.Memory

-- the status of a refusal
abbrev pub status_of : Refusal → ℕ
status_of (CannotRead role) = 4
status_of (TooLong role) = 3
status_of (Input file line column kind) = 3
status_of NotAStep = 2
status_of (Memory error) = 8

-- the outcome of a refusal
abbrev pub outcome_of : Refusal → Outcome
outcome_of why = refusal (status_of why) (fault_of why)

-- why a file was not read: the shelf hasn't it, a call failed, it is too long, or memory ran out
abbrev pub IsUnread : List ℕ → FileRole → ShelfSeen → ShelfSeen → Refusal → Type 0
IsUnread name role shelf shelf' (CannotRead r) =
    (r ≡ role) × (IsReadingOf shelf.files shelf'.place name Absent
    ⊎ (Rose shelf.faults shelf'.faults
    × ((shelf'.current ≡ None) ⊎ IsAtHand shelf.files name shelf'.current)))
IsUnread name role shelf shelf' (TooLong r) = (r ≡ role) × IsReadingOf shelf.files shelf'.place name Overlong
IsUnread name role shelf shelf' (Input file line column kind) = ⊥
IsUnread name role shelf shelf' NotAStep = ⊥
IsUnread name role shelf shelf' (Memory error) = ⊤

-- the first `count` files of a request were begun, and the shelf is else as calls leave it
pub record HasBegun (request : Request) (count : ℕ) (shelf shelf' : ShelfSeen) : Type 0 where
  pub files : shelf'.files ≡ shelf.files
  pub faults : shelf.faults ≤ shelf'.faults
  pub names : BegunThen shelf.begun (take count (names_of request)) shelf'.begun

-- the refusals that a fault of the shelf or want of memory may force
abbrev pub IsForced : Request → ShelfSeen → ShelfSeen → Refusal → Type 0
IsForced request shelf shelf' (CannotRead role) = Rose shelf.faults shelf'.faults × IsTied request role shelf'
IsForced request shelf shelf' (TooLong role) = ⊥
IsForced request shelf shelf' (Input file line column kind) = ⊥
IsForced request shelf shelf' NotAStep = ⊥
IsForced request shelf shelf' (Memory error) = ⊤

-- a file that can't be read is the last of those that were begun
abbrev pub IsOfLast : List FileRole → Refusal → Type 0
IsOfLast roles (CannotRead role) = EndsWith roles role
IsOfLast roles (TooLong role) = ⊤
IsOfLast roles (Input file line column kind) = ⊤
IsOfLast roles NotAStep = ⊤
IsOfLast roles (Memory error) = ⊤

-- a request was refused: the refusal is its answer, or was forced
pub record IsRefused (request : Request) (shelf shelf' : ShelfSeen) (refused : Refusal) : Type 0 where
  pub count : ℕ
  pub begun : HasBegun request count shelf shelf'
  pub cause : IsAnswer request shelf.files shelf'.place (outcome_of refused)
      ⊎ IsForced request shelf shelf' refused
  pub last : IsOfLast (take count (roles_of request)) refused

-- why files that were read whole have no answer to print: the refusal is their outcome, or memory ran out
abbrev pub IsUnanswered : (Outcome → Type 0) → Refusal → Type 0
IsUnanswered IsOutcome (CannotRead role) = ⊥
IsUnanswered IsOutcome (TooLong role) = ⊥
IsUnanswered IsOutcome (Input file line column kind) = IsOutcome (outcome_of (Input file line column kind))
IsUnanswered IsOutcome NotAStep = IsOutcome (outcome_of NotAStep)
IsUnanswered IsOutcome (Memory error) = ⊤

-- why a plan has no verdict
abbrev pub IsUnjudged : List ℕ → List ℕ → List ℕ → Refusal → Type 0
IsUnjudged domain problem plan refused = IsUnanswered (IsJudged domain problem plan) refused

-- the names of the files behind domain and problem
abbrev pub names_after : Option (List ℕ) → List (List ℕ)
names_after None = []
names_after (Some plan) = plan ∷ []

-- why the plan file was not read, where one is named
abbrev pub IsPlanUnread : Option (List ℕ) → ShelfSeen → ShelfSeen → Refusal → Type 0
IsPlanUnread None shelf shelf' refused = ⊥
IsPlanUnread (Some name) shelf shelf' refused = IsUnread name Plan shelf shelf' refused

-- the bytes of the plan file, where one is named
abbrev pub IsPlanWhole : Option (List ℕ) → Option (List NamedBytes) → Option (List ℕ) → Type 0
IsPlanWhole None files None = ⊤
IsPlanWhole None files (Some bytes) = ⊥
IsPlanWhole (Some name) files None = ⊥
IsPlanWhole (Some name) files (Some bytes) = ((place : ℕ) → IsReadingOf files place name (Whole bytes))
    × (length bytes ≤ most_file_bytes)

-- the refusal for a fault of a file with these bytes
abbrev pub input_refusal : List ℕ → InputFault → Refusal
input_refusal bytes found = Input found.file (line_of bytes found.at) (column_of bytes found.at) found.kind
