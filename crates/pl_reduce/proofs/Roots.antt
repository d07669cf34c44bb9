-- What the first stored node says of the whole join.
use Rattle.std.proofs.Common.{◌≡◌, ℕ, Bool, IsTrue, List, [], ◌∷◌, length, map, get_or, All, refl, sym, ap}
use Rattle.std.proofs.Common.{◌∙◌, arith}
use Rattle.std.proofs.lemmas.List.{nil_from_length}
use Rattle.pl_rows.specs.Rows.{Rows}
use Rattle.pl_join.specs.Relation.{Assignment}
use Rattle.pl_reduce.specs.declared.reduced.Stored.{Stored}
use Rattle.pl_reduce.specs.Nodes.{ReducedJoin}
use Rattle.pl_reduce.specs.Reduced.{IsReduced, JoinHolds}
use Rattle.pl_reduce.specs.Kept.{keyed_of, node_of}
use Rattle.pl_reduce.proofs.Walks.{none_held, rows_empty}

-- the join of stored nodes
abbrev stored_join : List ℕ → List Stored → ReducedJoin
stored_join classes nodes = record { classes = classes; nodes = map node_of nodes }

-- the rows of the first stored node
first_rows : (stored : Stored) (nodes : List Stored) (first : Stored) (table : Rows)
    → first ≡ get_or (stored ∷ nodes) 0 first → table.rows ≡ (keyed_of first).relation.rows
    → table.rows ≡ (node_of stored).relation.rows
first_rows stored nodes first table e t = t ∙ ap (λ (s : Stored). (keyed_of s).relation.rows) e

pub emptiness : (classes : List ℕ) (nodes : List Stored) (first : Stored) (table : Rows) (answer : Bool)
    → IsReduced (stored_join classes nodes) → first ≡ get_or nodes 0 first
    → table.rows ≡ (keyed_of first).relation.rows → (IsTrue answer → length table.rows ≡ 0)
    × (length table.rows ≡ 0 → IsTrue answer)
    → (IsTrue answer → (f : Assignment) → JoinHolds (stored_join classes nodes) f → ⊥)
    × (((f : Assignment) → JoinHolds (stored_join classes nodes) f → ⊥) → IsTrue answer)
emptiness classes [] first table answer is e t tells = absurd (let filled = is.filled in omega arith)
emptiness classes (stored ∷ nodes) first table answer is e t (forth, back) =
    let same : table.rows ≡ (node_of stored).relation.rows = first_rows stored nodes first table e t in (
      λ told f. none_held (stored_join classes (stored ∷ nodes)) (node_of stored) (map node_of nodes) f refl
          (nil_from_length (node_of stored).relation.rows (sym (ap length same) ∙ forth told)),
      λ none. back (ap length same ∙ rows_empty (stored_join classes (stored ∷ nodes)) is (node_of stored)
          (map node_of nodes) refl none),
    )

pub all_empty : (classes : List ℕ) (nodes : List Stored) (first : Stored) (table : Rows) (answer : Bool)
    → IsReduced (stored_join classes nodes) → first ≡ get_or nodes 0 first
    → table.rows ≡ (keyed_of first).relation.rows → (IsTrue answer → length table.rows ≡ 0) → IsTrue answer
    → All (λ node. node.relation.rows ≡ []) (map node_of nodes)
all_empty classes [] first table answer is e t forth holds = absurd (let filled = is.filled in omega arith)
all_empty classes (stored ∷ nodes) first table answer is e t forth holds =
    let same : table.rows ≡ (node_of stored).relation.rows = first_rows stored nodes first table e t in
    is.emptied (node_of stored) (map node_of nodes) refl
    (nil_from_length (node_of stored).relation.rows (sym (ap length same) ∙ forth holds))
