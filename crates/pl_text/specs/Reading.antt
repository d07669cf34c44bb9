-- How far a reading of a file has come: the lists that are still open, and the forms that are done.
use Rattle.std.specs.Prelude.{◌≡◌, ℕ, ◌+◌, ◌≤◌, false, List, [], ◌∷◌, ◌++◌, length, take, drop, reverse, All}
use Rattle.std.specs.Prelude.{⊤}
use Rattle.pl_text.specs.declared.form.Form.{Form}
use Rattle.pl_text.specs.Limits.{most_open}
use Rattle.pl_text.specs.declared.fault.TextFault.TheVariants.{StrayClose, TooDeep}
use Rattle.pl_text.specs.declared.fault.TextEnd.{TextEnd}
use Rattle.pl_text.specs.declared.fault.TextEnd.TheVariants.{Fault, Memory}
use Rattle.pl_text.specs.declared.reading.Opened.{Opened}
use Rattle.pl_text.specs.Bytes.{is_bad_byte}
use Rattle.pl_text.specs.Comments.{shown}
use Rattle.pl_text.specs.Tokens.{Token, Open, tokens, tokens_from}
use Rattle.pl_text.specs.Forms.{flatten_all}
use Rattle.pl_text.specs.TextFaults.{opens, closes}

-- The tokens that were read, by the open lists, the innermost first: the forms that were done before the
-- innermost list began, its bracket, and the forms that were done since.
abbrev pub tokens_read : List Opened → List Form → List Token
tokens_read [] done = flatten_all done
tokens_read (list ∷ outer) done =
    tokens_read outer (take list.before done) ++ Open list.at ∷ flatten_all (drop list.before done)

-- Each open list began with no fewer forms done than the list around it, and no more than are done.
abbrev pub AreNested : List Opened → ℕ → Type 0
AreNested [] count = ⊤
AreNested (list ∷ outer) count = (list.before ≤ count) × AreNested outer list.before

-- what a reading keeps, the outermost list first
pub record IsKept (lists : List Opened) (done : List Form) : Type 0 where
  pub nested : AreNested (reverse lists) (length done)
  pub depth : length lists ≤ most_open

-- A token was read.
pub record AddsToken (old_lists new_lists : List Opened) (old_done new_done : List Form) (token : Token) :
    Type 0 where
  pub kept : IsKept new_lists new_done
  pub read : tokens_read (reverse new_lists) new_done ≡ tokens_read (reverse old_lists) old_done ++ token ∷ []

-- An open bracket was refused: as many lists are open as may be, or there is no memory.
abbrev pub CannotEnter : List Opened → ℕ → TextEnd → Type 0
CannotEnter lists at (Fault fault) = (fault ≡ TooDeep at) × (length lists ≡ most_open)
CannotEnter lists at (Memory error) = ⊤

-- A close bracket was refused: no list is open, or there is no memory.
abbrev pub CannotLeave : List Opened → ℕ → TextEnd → Type 0
CannotLeave lists at (Fault fault) = (fault ≡ StrayClose at) × (lists ≡ [])
CannotLeave lists at (Memory error) = ⊤

-- There is no memory.
abbrev pub IsMemory : TextEnd → Type 0
IsMemory (Fault fault) = ⊥
IsMemory (Memory error) = ⊤

-- No front of these tokens has more closes than opens, or too many more opens than closes.
abbrev pub IsQuiet : List Token → Type 0
IsQuiet all =
    (front rest : List Token) → all ≡ front ++ rest →
    (closes front ≤ opens front) × (opens front ≤ closes front + most_open)

-- The file was read without a fault up to the place `at`, which stands outside comments and does not cut a
-- word.
pub record IsRead (bytes : List ℕ) (at : ℕ) (lists : List Opened) (done : List Form) : Type 0 where
  pub in_file : at ≤ length bytes
  pub outside : drop at (shown bytes) ≡ shown (drop at bytes)
  pub kept : IsKept lists done
  pub read : tokens_read (reverse lists) done ++ tokens_from at false (shown (drop at bytes)) ≡ tokens bytes
  pub clean : All (λ b. is_bad_byte b ≡ false) (take at (shown bytes))
  pub quiet : IsQuiet (tokens_read (reverse lists) done)
