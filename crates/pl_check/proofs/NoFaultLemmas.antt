-- What follows where there is no fault: the parts of an empty list are empty, and a test without a fault
-- fails.
use Rattle.std.proofs.Common.{◌≡◌, ℕ, Bool, true, false, List, [], ◌∷◌, ◌++◌, All, refl, arith}
use Rattle.std.specs.List.{flat_map}
use Rattle.std.proofs.lemmas.List.Elements.{All-nil, All-cons}
use Rattle.pl_check.specs.declared.fault.FaultKind.{FaultKind}
use Rattle.pl_check.specs.declared.reading.Fault.{Fault}
use Rattle.pl_check.specs.FaultLists.{first, fault_if, or_inside}
use Rattle.std.proofs.Common.{None}

pub empty_left : {X : Type 0} (xs ys : List X) → xs ++ ys ≡ [] → xs ≡ []
empty_left [] ys h = refl
empty_left (x ∷ xs) ys h = cc

pub empty_right : {X : Type 0} (xs ys : List X) → xs ++ ys ≡ [] → ys ≡ []
empty_right [] ys h = h
empty_right (x ∷ xs) ys h = cc

pub empty_own : (own inner : List Fault) → or_inside own inner ≡ [] → own ≡ []
empty_own [] inner h = refl
empty_own (fault ∷ own) inner h = cc

pub empty_inside : (own inner : List Fault) → or_inside own inner ≡ [] → inner ≡ []
empty_inside [] inner h = h
empty_inside (fault ∷ own) inner h = cc

pub none_empty : (faults : List Fault) → first faults ≡ None → faults ≡ []
none_empty [] h = refl
none_empty (fault ∷ faults) h = cc

-- a test that gives no fault fails
pub passes : (test : Bool) (at : ℕ) (kind : FaultKind) → fault_if test at kind ≡ [] → test ≡ false
passes true at kind h = cc
passes false at kind h = refl

-- each element of a list without a fault has none
pub each_empty : {X Y : Type 0} (f : X → List Y) (xs : List X) → flat_map f xs ≡ [] → All (λ x. f x ≡ []) xs
each_empty f [] h = All-nil (λ x. f x ≡ [])
each_empty f (x ∷ xs) h =
    All-cons (λ x. f x ≡ []) x xs (empty_left (f x) (flat_map f xs) h)
    (each_empty f xs (empty_right (f x) (flat_map f xs) h))
