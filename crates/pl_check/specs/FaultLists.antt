-- Faults of the forms of a file, in reading order.
use Rattle.std.specs.Prelude.{◌≡◌, ℕ, Bool, cond, List, [], ◌∷◌, Option, Some, None}
use Rattle.pl_check.specs.declared.fault.FaultKind.{FaultKind}
use Rattle.pl_check.specs.declared.reading.Fault.{Fault}

-- the one fault of a test, where the test says that there is one
abbrev pub fault_if : Bool → ℕ → FaultKind → List Fault
fault_if test at kind = cond test (record { at = at; kind = kind } ∷ []) []

-- the faults of a list: its own, and those of the forms inside it where it has none of its own
abbrev pub or_inside : List Fault → List Fault → List Fault
or_inside [] inside = inside
or_inside (fault ∷ rest) inside = fault ∷ rest

-- the first of them
abbrev pub first : List Fault → Option Fault
first [] = None
first (fault ∷ rest) = Some fault
