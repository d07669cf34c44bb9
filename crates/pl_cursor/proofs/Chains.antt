-- The answers are just the tuples that a chain of rows gives.
use Rattle.std.proofs.Common.{◌↔◌, ℕ, List, [], ◌∷◌, Contains, sym, subst, inl, inr}
use Rattle.pl_rows.proofs.Canonical.{Contains-nil, Contains-cons_cases, Contains-cons_first}
use Rattle.pl_join.proofs.Members.{Contains-flat_map, Contains-from_flat_map}
use Rattle.pl_cursor.specs.Answers.{Stage, answers, matching, grown, IsAnswer}

chain_of : (stages : List Stage) (values answer : List ℕ) → Contains (answers stages values) answer
    → IsAnswer stages values answer
chain_of [] values answer h = elim (Contains-cons_cases values [] answer h) [
  | inl e ↦ sym e
  | inr r ↦ absurd (Contains-nil answer r)
]
chain_of (stage ∷ stages) values answer h =
    let (row, held, rest) = Contains-from_flat_map (λ row. answers stages (grown stage values row))
    (matching stage values) answer h in
    (row, held, chain_of stages (grown stage values row) answer rest)

of_chain : (stages : List Stage) (values answer : List ℕ) → IsAnswer stages values answer
    → Contains (answers stages values) answer
of_chain [] values answer e = subst (Contains (values ∷ [])) (sym e) (Contains-cons_first values [])
of_chain (stage ∷ stages) values answer (row, held, rest) =
    Contains-flat_map (λ row. answers stages (grown stage values row)) (matching stage values) row answer held
    (of_chain stages (grown stage values row) answer rest)

-- an answer is what a chain of rows gives
pub members : (stages : List Stage) (values answer : List ℕ) → Contains (answers stages values) answer
    ↔ IsAnswer stages values answer
members stages values answer = (chain_of stages values answer, of_chain stages values answer)
