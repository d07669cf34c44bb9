-- The first of faults, by the lists that it is made of.
use Rattle.std.proofs.Common.{◌≡◌, List, [], ◌∷◌, ◌++◌, Option, None, Some, refl}
use Rattle.pl_check.specs.declared.reading.Fault.{Fault}
use Rattle.pl_check.specs.FaultLists.{first}

-- the first of the front, where it has one
pub first_some : (faults rest : List Fault) (fault : Fault) → first faults ≡ Some fault →
    first (faults ++ rest) ≡ Some fault
first_some [] rest fault h = cc
first_some (f ∷ faults) rest fault h = h

-- else the first of the rest
pub first_none : (faults rest : List Fault) → first faults ≡ None → first (faults ++ rest) ≡ first rest
first_none [] rest h = refl
first_none (f ∷ faults) rest h = cc
