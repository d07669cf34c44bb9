-- What the writing of a run's text comes to.
use Rattle.std.specs.Prelude.{◌≡◌, ◌≢◌, ℕ, ◌⊎◌, List, []}
use Rattle.pl_io.specs.Outside.{SinkSeen, AppendsFront, Rose}
use Rattle.pl_print.specs.Texts.{fault_text}
use Rattle.pl_print.specs.declared.fault.Fault.TheVariants as fault
use Rattle.pl_top.specs.Answer.{Outcome}
use Rattle.pl_top.specs.Run.{IsPut, IsLinePut}

-- the whole text was written
pub record IsWholeText (text : List ℕ) (status : ℕ) (out out' err err' : SinkSeen) (result : ℕ) : Type 0 where
  pub status_is : result ≡ status
  pub put : IsPut text out out'
  pub quiet : err' ≡ err

-- a front of the text was written, and then `out` failed
pub record IsCutOff (text : List ℕ) (out out' err err' : SinkSeen) (result : ℕ) : Type 0 where
  pub status_is : result ≡ 5
  pub some : text ≢ []
  pub cause : Rose out.faults out'.faults
  pub front : AppendsFront out.written out'.written text
  pub line : IsLinePut (fault_text fault.Write) err err'

-- a text was written, whole and with this status, or in part
abbrev pub Writes : List ℕ → ℕ → SinkSeen → SinkSeen → SinkSeen → SinkSeen → ℕ → Type 0
Writes text status out out' err err' result =
    IsWholeText text status out out' err err' result ⊎ IsCutOff text out out' err err' result

-- the text of an outcome was written, whole or in part; an outcome with a text has no line, and its status
-- isn't 4
pub record IsPrinted (IsOutcome : Outcome → Type 0) (out out' err err' : SinkSeen) (result : ℕ) : Type 0 where
  pub outcome : Outcome
  pub is : IsOutcome outcome
  pub no_line : outcome.line ≡ []
  pub other : outcome.status ≢ 4
  pub writes : Writes outcome.text outcome.status out out' err err' result

-- memory ran out before anything was written
pub record IsOutOfMemory (out out' err err' : SinkSeen) (result : ℕ) : Type 0 where
  pub status_is : result ≡ 8
  pub untouched : out' ≡ out
  pub line : IsLinePut (fault_text fault.Memory) err err'

-- the end of a run whose files were read whole and have no fault
abbrev pub Finishes : (Outcome → Type 0) → SinkSeen → SinkSeen → SinkSeen → SinkSeen → ℕ → Type 0
Finishes IsOutcome out out' err err' result = IsPrinted IsOutcome out out' err err' result
    ⊎ IsOutOfMemory out out' err err' result
