-- Between the rows of a relation and the assignments that it holds.
use Rattle.std.proofs.Common.{◌≡◌, ◌≢◌, ◌↔◌, ◌==◌, ◌<◌, ◌≤◌, ℕ, suc, cond, List, [], ◌∷◌, length, map}
use Rattle.std.proofs.Common.{Contains, All, refl, sym, ap, subst, ◌∙◌, inl, inr, arith}
use Rattle.std.proofs.lemmas.Bool.Decides.{nat_tests, Decides-eqb}
use Rattle.std.proofs.lemmas.List.Elements.{All-contains, All-weaker}
use Rattle.std.proofs.lemmas.Map.Made.{IsDistinct-from_AllPairs}
use Rattle.std.proofs.lemmas.Map.Steps.{length-le_from_distinct_below}
use Rattle.std.proofs.lemmas.Map.Views.{Contains-from_any}
use Rattle.pl_rows.proofs.Canonical.{Contains-nil, Contains-cons_cases, Contains-cons_first}
use Rattle.pl_rows.proofs.Canonical.{Contains-cons_rest, same_rows}
use Rattle.pl_join.specs.Relation.{ClassRows, Assignment, AreDistinct, IsRelation, Holds, Agree}

-- the assignment that a row gives to the classes
abbrev pub value_of : List ℕ → List ℕ → Assignment
value_of [] row c = 0
value_of (k ∷ ks) [] c = 0
value_of (k ∷ ks) (x ∷ row) c = cond (c == k) x (value_of ks row c)

-- assignments that agree on classes give them the same row
pub map_agree : (classes : List ℕ) (f g : Assignment) → Agree classes f g → map f classes ≡ map g classes
map_agree [] f g h = refl
map_agree (k ∷ ks) f g h =
    let first : f k ≡ g k = h k (Contains-cons_first k ks) in
    let rest : map f ks ≡ map g ks = map_agree ks f g (λ c m. h c (Contains-cons_rest k ks c m)) in
    cc

-- assignments that give classes the same row agree on them
pub agree_map : (classes : List ℕ) (f g : Assignment) → map f classes ≡ map g classes → Agree classes f g
agree_map [] f g e c h = absurd (Contains-nil c h)
agree_map (k ∷ ks) f g e c h =
    let first : f k ≡ g k = cc in
    let rest : map f ks ≡ map g ks = cc in
    elim (Contains-cons_cases k ks c h) [
      | inl s ↦ rw (← s) first
      | inr m ↦ agree_map ks f g rest c m
    ]

-- the first of distinct classes is none of the others
pub first_apart : (k : ℕ) (ks : List ℕ) → AreDistinct (k ∷ ks) → (c : ℕ) → Contains ks c → c ≢ k
first_apart k ks d c (i, l, e) s = d 0 (suc i) c (omega arith) (omega arith) (sym s ∙ sym e)

pub rest_distinct : (k : ℕ) (ks : List ℕ) → AreDistinct (k ∷ ks) → AreDistinct ks
rest_distinct k ks d i j x l m = d (suc i) (suc j) x (omega arith) (omega arith)

-- the assignment of a row gives the row back
pub restored : (classes row : List ℕ) → AreDistinct classes → length row ≡ length classes
    → map (value_of classes row) classes ≡ row
restored [] [] d l = refl
restored [] (x ∷ row) d l = absurd (omega arith)
restored (k ∷ ks) [] d l = absurd (omega arith)
restored (k ∷ ks) (x ∷ row) d l =
    let first : value_of (k ∷ ks) (x ∷ row) k ≡ x = at_first k x (value_of ks row k) in
    let same : map (value_of (k ∷ ks) (x ∷ row)) ks ≡ map (value_of ks row) ks =
    map_agree ks (value_of (k ∷ ks) (x ∷ row)) (value_of ks row)
    (λ c m. at_rest c k x (value_of ks row c) (first_apart k ks d c m)) in
    let rest : map (value_of ks row) ks ≡ row = restored ks row (rest_distinct k ks d) (omega arith) in
    cc
  where
    at_first : (k x y : ℕ) → cond (k == k) x y ≡ x
    at_first k x y = grind (arith, nat_tests)

    at_rest : (c k x y : ℕ) → c ≢ k → cond (c == k) x y ≡ y
    at_rest c k x y n = grind (arith, nat_tests)

-- each row of a relation is that of an assignment
pub row_held : (relation : ClassRows) → IsRelation relation → (row : List ℕ) → Contains relation.rows row →
    map (value_of relation.classes row) relation.classes ≡ row
row_held relation is row h =
    restored relation.classes row is.distinct
    (All-contains (λ r. length r ≡ length relation.classes) relation.rows row is.rows.width h)

-- distinct classes below a number are no more than that number
pub few_classes : (classes : List ℕ) (n : ℕ) → AreDistinct classes → All (λ c. c < n) classes
    → length classes ≤ n
few_classes classes n d below =
    length-le_from_distinct_below classes n (IsDistinct-from_AllPairs Decides-eqb classes d)
    (λ q h. All-contains (λ c. c < n) classes q below
    (Contains-from_any (λ x y. (Decides-eqb x y).0) q classes h))

-- classes of a relation are below 64 too
pub held_below : (classes wanted : List ℕ) (n : ℕ) → All (λ c. c < n) classes → All (Contains classes) wanted
    → All (λ c. c < n) wanted
held_below classes wanted n below held =
    All-weaker (Contains classes) (λ c. c < n) (λ c h. All-contains (λ k. k < n) classes c below h) wanted
    held

-- a row of a relation is one of another with the same classes that holds what it holds
row_shared : (relation other : ClassRows) → IsRelation relation → relation.classes ≡ other.classes
    → ((f : Assignment) → Holds relation f → Holds other f) → (row : List ℕ) → Contains relation.rows row
    → Contains other.rows row
row_shared relation other is e holds row h =
    let f : Assignment = value_of relation.classes row in
    let whole : map f relation.classes ≡ row = row_held relation is row h in
    subst (Contains other.rows) (ap (map f) (sym e) ∙ whole)
    (holds f (subst (Contains relation.rows) (sym whole) h))

-- relations with the same classes that hold the same assignments are the same
pub same_relation : (relation other : ClassRows) → IsRelation relation → IsRelation other
    → relation.classes ≡ other.classes → ((f : Assignment) → Holds relation f ↔ Holds other f)
    → relation ≡ other
same_relation relation other is are e holds =
    let rows : relation.rows ≡ other.rows = same_rows relation.rows other.rows is.rows.ascending
    are.rows.ascending
    (λ row. (
      row_shared relation other is e (λ f. (holds f).0) row,
      row_shared other relation are (sym e) (λ f. (holds f).1) row,
    )) in
    let of : List ℕ → List (List ℕ) → ClassRows = λ cs rs. record { classes = cs; rows = rs } in
    ap (of relation.classes) rows ∙ ap (λ classes. of classes other.rows) e

-- a relation with no row has no assignment
pub holds_none : (relation : ClassRows) (f : Assignment) → relation.rows ≡ [] → Holds relation f → ⊥
holds_none relation f e h = Contains-nil (map f relation.classes)
    (subst (λ rows. Contains rows (map f relation.classes)) e h)
