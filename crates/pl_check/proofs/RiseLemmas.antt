-- Lists of faults in the order of places and kinds, which one number holds.
use Rattle.std.proofs.Common.{◌≡◌, ◌+◌, ◌*◌, ◌-◌, ◌<◌, ◌≤◌, ℕ, zero, suc, Bool, true, false, cond, List, []}
use Rattle.std.proofs.Common.{◌∷◌, ◌++◌, drop, flat_map, All, refl, arith}
use Rattle.std.proofs.lemmas.List.Elements.{All-nil, All-cons}
use Rattle.pl_text.specs.Trees.{Tree, Trees, word, list, end, more, span_of, members, LiesBetween, LieBetween}
use Rattle.pl_text.proofs.TreePlaceLaws.{LiesBetween-from, LiesBetween-some, LiesBetween-to}
use Rattle.pl_text.proofs.TreePlaceLaws.{LiesBetween-wider, LieBetween-ends}
use Rattle.pl_check.specs.declared.fault.FaultKind.{FaultKind}
use Rattle.pl_check.specs.declared.reading.Fault.{Fault}
use Rattle.pl_check.specs.Elements.{place, elements}
use Rattle.pl_check.specs.FaultLists.{fault_if, or_inside}
use Rattle.pl_check.specs.Laws.{kind_number}

-- the place and the kind of a fault as one number
abbrev pub key : Fault → ℕ
key fault = fault.at * 16 + kind_number fault.kind

-- the faults stand in order, from one number to another
abbrev pub Rises : ℕ → ℕ → List Fault → Type 0
Rises low high [] = low ≤ high
Rises low high (fault ∷ rest) = (low ≤ key fault) × Rises (key fault) high rest

pub rises-lower : (low low' high : ℕ) (faults : List Fault) → low' ≤ low → Rises low high faults →
    Rises low' high faults
rises-lower low low' high [] le h = omega (arith, h)
rises-lower low low' high (f ∷ faults) le h = (omega (arith, h.0), h.1)

pub rises-upper : (low high high' : ℕ) (faults : List Fault) → high ≤ high' → Rises low high faults →
    Rises low high' faults
rises-upper low high high' [] le h = omega (arith, h)
rises-upper low high high' (f ∷ faults) le h = (h.0, rises-upper (key f) high high' faults le h.1)

pub rises-append : (low mid high : ℕ) (xs ys : List Fault) → Rises low mid xs → Rises mid high ys →
    Rises low high (xs ++ ys)
rises-append low mid high [] ys h k = rises-lower mid low high ys h k
rises-append low mid high (f ∷ xs) ys h k = (h.0, rises-append (key f) mid high xs ys h.1 k)

pub rises-if : (low high : ℕ) (test : Bool) (at : ℕ) (k : FaultKind) → low ≤ at * 16 + kind_number k →
    at * 16 + kind_number k ≤ high → Rises low high (fault_if test at k)
rises-if low high true at k le le' = (le, le')
rises-if low high false at k le le' = omega (arith, le, le')

pub rises-cond : (low high : ℕ) (test : Bool) (xs ys : List Fault) → Rises low high xs → Rises low high ys →
    Rises low high (cond test xs ys)
rises-cond low high true xs ys h k = h
rises-cond low high false xs ys h k = k

pub rises-inside : (low high : ℕ) (own inside : List Fault) → Rises low high own →
    (own ≡ [] → Rises low high inside) → Rises low high (or_inside own inside)
rises-inside low high [] inside h k = k refl
rises-inside low high (f ∷ own) inside h k = h

-- the first is no later than any
pub first_least : (low high : ℕ) (fault : Fault) (rest : List Fault) → Rises low high (fault ∷ rest) →
    All (λ f. key fault ≤ key f) (fault ∷ rest)
first_least low high fault rest h =
    All-cons (λ f. key fault ≤ key f) fault rest (omega arith)
    (least_from (key fault) (key fault) high rest (omega arith) h.1)
  where
    least_from : (least low high : ℕ) (faults : List Fault) → least ≤ low → Rises low high faults →
        All (λ f. least ≤ key f) faults
    least_from least low high [] le h = All-nil (λ f. least ≤ key f)
    least_from least low high (f ∷ faults) le h =
        All-cons (λ f. least ≤ key f) f faults (omega (arith, h.0))
        (least_from least (key f) high faults (omega (arith, h.0)) h.1)

-- trees lie one after another
abbrev pub Lie : ℕ → ℕ → List Tree → Type 0
Lie low high [] = low ≤ high
Lie low high (tree ∷ rest) = LiesBetween low high tree × Lie (span_of tree).to high rest

pub lie-ends : (low high : ℕ) (trees : List Tree) → Lie low high trees → low ≤ high
lie-ends low high [] h = h
lie-ends low high (t ∷ trees) h =
    omega (
      arith,
      LiesBetween-from low high t h.0,
      LiesBetween-some low high t h.0,
      lie-ends (span_of t).to high trees h.1,
    )

pub lie-lower : (low low' high : ℕ) (trees : List Tree) → low' ≤ low → Lie low high trees →
    Lie low' high trees
lie-lower low low' high [] le h = omega (arith, h)
lie-lower low low' high (t ∷ trees) le h =
    (LiesBetween-wider low high low' high t le (LiesBetween-to low high t h.0) h.0, h.1)

pub lie-upper : (low high high' : ℕ) (trees : List Tree) → high ≤ high' → Lie low high trees →
    Lie low high' trees
lie-upper low high high' [] le h = omega (arith, h)
lie-upper low high high' (t ∷ trees) le h = (
  LiesBetween-wider low high low high' t (omega arith) (omega (arith, LiesBetween-to low high t h.0)) h.0,
  lie-upper (span_of t).to high high' trees le h.1,
)

pub lie-drop : (count low high : ℕ) (trees : List Tree) → Lie low high trees → Lie low high (drop count trees)
lie-drop zero low high trees h = h
lie-drop (suc count) low high [] h = h
lie-drop (suc count) low high (t ∷ trees) h =
    lie-drop count low high trees
    (lie-lower (span_of t).to low high trees
    (omega (arith, LiesBetween-from low high t h.0, LiesBetween-some low high t h.0)) h.1)

pub lie-members : (low high : ℕ) (trees : Trees) → LieBetween low high trees → Lie low high (members trees)
lie-members low high end h = h
lie-members low high (more tree rest) h = (h.0, lie-members (span_of tree).to high rest h.1)

-- the elements of a tree lie behind its place
pub lie-elements : (low high : ℕ) (tree : Tree) → LiesBetween low high tree →
    Lie (place tree + 1) (span_of tree).to (elements tree)
lie-elements low high (word span) h = omega (arith, h.1)
lie-elements low high (list span trees) h =
    lie-upper (span.from + 1) (span.to - 1) span.to (members trees) (omega arith)
    (lie-members (span.from + 1) (span.to - 1) trees h.3)

-- faults that stand at the place of a tree, and faults that stand in it
abbrev pub AtTree : Tree → List Fault → Type 0
AtTree tree faults = Rises (place tree * 16) (place tree * 16 + 15) faults

abbrev pub InTree : Tree → List Fault → Type 0
InTree tree faults = Rises (place tree * 16) ((span_of tree).to * 16) faults

pub in-at : (low high : ℕ) (tree : Tree) (faults : List Fault) → LiesBetween low high tree →
    AtTree tree faults →
    InTree tree faults
in-at low high tree faults lies h =
    rises-upper (place tree * 16) (place tree * 16 + 15) ((span_of tree).to * 16) faults
    (omega (arith, LiesBetween-some low high tree lies)) h

-- the faults of a tree itself, else those behind its place
pub in-inside : (low high : ℕ) (tree : Tree) (own inside : List Fault) → LiesBetween low high tree →
    AtTree tree own →
    (own ≡ [] → Rises ((place tree + 1) * 16) ((span_of tree).to * 16) inside) →
    InTree tree (or_inside own inside)
in-inside low high tree own inside lies h k =
    rises-inside (place tree * 16) ((span_of tree).to * 16) own inside (in-at low high tree own lies h)
    (λ none. rises-lower ((place tree + 1) * 16) (place tree * 16) ((span_of tree).to * 16) inside
    (omega arith) (k none))

-- the faults of trees one after another, where those of each stand in it
pub rises-flat : (f : Tree → List Fault) →
    ((low high : ℕ) (t : Tree) → LiesBetween low high t → InTree t (f t)) →
    (low high : ℕ) (trees : List Tree) → Lie low high trees → Rises (low * 16) (high * 16) (flat_map f trees)
rises-flat f each low high [] h = omega (arith, h)
rises-flat f each low high (t ∷ trees) h =
    rises-append (low * 16) ((span_of t).to * 16) (high * 16) (f t) (flat_map f trees)
    (rises-lower (place t * 16) (low * 16) ((span_of t).to * 16) (f t)
    (omega (arith, LiesBetween-from low high t h.0))
    (each low high t h.0))
    (rises-flat f each (span_of t).to high trees h.1)
