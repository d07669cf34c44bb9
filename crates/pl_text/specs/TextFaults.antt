-- What can be wrong with a file before any of its forms is looked at, and where.
use Rattle.std.specs.Prelude.{◌≡◌, ℕ, ◌+◌, ◌<◌, ◌≤◌, List, [], ◌∷◌, ◌++◌, IsTrue, ⊤}
use Rattle.pl_text.specs.declared.fault.TextFault.{TextFault}
use Rattle.pl_text.specs.declared.fault.TextFault.TheVariants.{BadByte, StrayClose, TooDeep, Unclosed}
use Rattle.pl_text.specs.declared.fault.TextEnd.{TextEnd}
use Rattle.pl_text.specs.declared.fault.TextEnd.TheVariants.{Fault, Memory}
use Rattle.pl_text.specs.Limits.{most_open}
use Rattle.pl_text.specs.Bytes.{is_bad_byte}
use Rattle.pl_text.specs.Comments.{HoldsByte}
use Rattle.pl_text.specs.Tokens.{Token, Open, Close, Word, tokens}
use Rattle.pl_text.specs.Trees.{Trees, AreTreesOf}

-- how many open brackets are among these tokens
abbrev pub opens : List Token → ℕ
opens [] = 0
opens (Open at ∷ rest) = opens rest + 1
opens (Close at ∷ rest) = opens rest
opens (Word span ∷ rest) = opens rest

-- how many close brackets are among them
abbrev pub closes : List Token → ℕ
closes [] = 0
closes (Open at ∷ rest) = closes rest
closes (Close at ∷ rest) = closes rest + 1
closes (Word span ∷ rest) = closes rest

-- Position p holds a byte that is no blank, no bracket and no word byte, outside comments.
abbrev pub IsBadByte : List ℕ → ℕ → Type 0
IsBadByte bytes p = (b : ℕ) × HoldsByte bytes p b × IsTrue (is_bad_byte b)

-- a close bracket at which the tokens so far, it included, have more closes than opens
pub record IsStrayClose (all : List Token) (at : ℕ) : Type 0 where
  pub before : List Token
  pub rest : List Token
  pub splits : all ≡ before ++ Close at ∷ rest
  pub outnumbered : opens (before ++ Close at ∷ []) < closes (before ++ Close at ∷ [])

-- an open bracket at which the opens so far, it included, are too many more than the closes
pub record IsTooDeep (all : List Token) (at : ℕ) : Type 0 where
  pub before : List Token
  pub rest : List Token
  pub splits : all ≡ before ++ Open at ∷ rest
  pub deep : opens (before ++ Open at ∷ []) ≡ closes (before ++ Open at ∷ []) + most_open + 1

-- No front of these tokens has more closes than opens.
abbrev pub ClosesNothing : List Token → Type 0
ClosesNothing all = (front rest : List Token) → all ≡ front ++ rest → closes front ≤ opens front

-- an open bracket that is never closed: the tokens after it close brackets among them alone
pub record IsUnclosed (all : List Token) (at : ℕ) : Type 0 where
  pub before : List Token
  pub rest : List Token
  pub splits : all ≡ before ++ Open at ∷ rest
  pub open_still : ClosesNothing rest

-- the least place with P
pub record IsFirst (P : ℕ → Type 0) (at : ℕ) : Type 0 where
  pub here : P at
  pub least : (p : ℕ) → P p → at ≤ p

-- The file has this fault, and the fault has this place.
abbrev pub IsTextFault : List ℕ → TextFault → Type 0
IsTextFault bytes (BadByte at) = IsFirst (IsBadByte bytes) at
IsTextFault bytes (StrayClose at) = IsFirst (IsStrayClose (tokens bytes)) at
IsTextFault bytes (TooDeep at) = IsFirst (IsTooDeep (tokens bytes)) at
IsTextFault bytes (Unclosed at) = IsFirst (IsUnclosed (tokens bytes)) at

-- the place of a fault
abbrev pub fault_place : TextFault → ℕ
fault_place (BadByte at) = at
fault_place (StrayClose at) = at
fault_place (TooDeep at) = at
fault_place (Unclosed at) = at

-- An unclosed bracket comes after all other faults, and of the others the lesser place comes first.
abbrev pub ComesBefore : TextFault → TextFault → Type 0
ComesBefore (Unclosed at) (Unclosed other) = ⊤
ComesBefore (Unclosed at) other = ⊥
ComesBefore fault (Unclosed at) = ⊤
ComesBefore fault other = fault_place fault ≤ fault_place other

-- the fault of a file that is given: one that it has, and that none of its faults comes before
pub record IsGivenFault (bytes : List ℕ) (fault : TextFault) : Type 0 where
  pub has : IsTextFault bytes fault
  pub first : (other : TextFault) → IsTextFault bytes other → ComesBefore fault other

-- The file has no fault.
abbrev pub IsFaultless : List ℕ → Type 0
IsFaultless bytes = (fault : TextFault) → IsTextFault bytes fault → ⊥

-- The file has no fault, and has trees.
abbrev pub HasForms : List ℕ → Type 0
HasForms bytes = IsFaultless bytes × ((trees : Trees) × AreTreesOf bytes trees)

-- The file gives a fault.
abbrev pub GivesFault : List ℕ → Type 0
GivesFault bytes = (fault : TextFault) × IsGivenFault bytes fault

-- how a reading of the file may end that gives no forms: by its fault, or out of memory
abbrev pub EndsBy : List ℕ → TextEnd → Type 0
EndsBy bytes (Fault fault) = IsGivenFault bytes fault
EndsBy bytes (Memory error) = ⊤
