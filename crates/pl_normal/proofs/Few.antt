-- A relation of an edge has no more rows than the edge's source.
use Rattle.std.proofs.Common.{◌≡◌, ℕ, ◌+◌, ◌<◌, ◌≤◌, ◌↔◌, ◌⊎◌, inl, inr, suc, IsTrue, List, [], ◌∷◌, length}
use Rattle.std.proofs.Common.{filter, get_or, refl, sym, ◌∙◌, ap, subst, arith, Contains}
use Rattle.std.specs.List.{sum_by}
use Rattle.std.specs.declared.cmp.Ordering.TheVariants.{Less}
use Rattle.std.proofs.lemmas.Cmp.{nat_list_cmp_total}
use Rattle.std.proofs.lemmas.List.{length-map, get_or-map as list_map}
use Rattle.std.proofs.lemmas.List.Elements.{All-contains}
use Rattle.std.proofs.lemmas.List.Sums.{length-filter, sum_by-cons}
use Rattle.std.proofs.lemmas.Map.Keys.{sorted_tail}
use Rattle.std.proofs.lemmas.Map.Views.{All-after_first}
use Rattle.pl_rows.specs.Rows.{Rows, row_cmp, IsAscending}
use Rattle.pl_rows.proofs.Canonical.{Contains-nil, Contains-cons_cases, Contains-cons_first}
use Rattle.pl_rows.proofs.Canonical.{Contains-cons_rest, not_below_itself}
use Rattle.pl_task.specs.declared.data.Schema.{Schema}
use Rattle.pl_task.specs.declared.task.Task.{Task}
use Rattle.pl_task.specs.States.{State}
use Rattle.pl_join.specs.declared.slot.Slot.TheVariants.{Class}
use Rattle.pl_join.specs.Relation.{Assignment, Agree, ClassRows, Holds, IsRelation, slot_value}
use Rattle.pl_join.proofs.Assignments.{value_of, row_held, map_agree}
use Rattle.pl_join.proofs.Members.{Contains-filter}
use Rattle.pl_normal.specs.declared.form.Edge.{Edge}
use Rattle.pl_normal.specs.Measures.{edge_rows}
use Rattle.pl_normal.specs.Queries.{AreEdgeRows}
use Rattle.pl_normal.specs.Query.{is_in_source, meets_edge, values_of}
use Rattle.pl_normal.specs.Steps.{tuples}
use Rattle.pl_normal.proofs.Listing.{is_tuple}
use Rattle.pl_normal.specs.StateTables.{HasObjectRows}

-- ---- lists that go into others

-- the others, where one element is taken out
pub record IsWithout {Y : Type 0} (ys : List Y) (z : Y) (rest : List Y) : Type 0 where
  pub long : length ys ≡ suc (length rest)
  pub sums : (w : Y → ℕ) → sum_by w ys ≡ w z + sum_by w rest
  pub others : (y : Y) → Contains ys y → (z ≡ y) ⊎ Contains rest y

with_first : {Y : Type 0} (y : Y) (ys : List Y) (z : Y) → y ≡ z → IsWithout (y ∷ ys) z ys
with_first y ys z same = record {
  long = refl;
  sums = λ w. sum_by-cons w y ys ∙ ap (λ x. w x + sum_by w ys) same;
  others = λ x c. elim (Contains-cons_cases y ys x c) [
    | inl e ↦ inl (sym same ∙ e)
    | inr r ↦ inr r
  ];
}

with_later : {Y : Type 0} (y : Y) (ys : List Y) (z : Y) (rest : List Y) → IsWithout ys z rest →
    IsWithout (y ∷ ys) z (y ∷ rest)
with_later y ys z rest is = record {
  long = ap suc is.long;
  sums = λ w. (let all = sum_by-cons w y ys in let left = sum_by-cons w y rest in let here = is.sums w in
      omega (arith, all, left, here));
  others = λ x c. elim (Contains-cons_cases y ys x c) [
    | inl e ↦ inr (subst (Contains (y ∷ rest)) e (Contains-cons_first y rest))
    | inr r ↦ elim (is.others x r) [
      | inl e ↦ inl e
      | inr q ↦ inr (Contains-cons_rest y rest x q)
    ]
  ];
}

pub taken_out : {Y : Type 0} (ys : List Y) (z : Y) → Contains ys z → (rest : List Y) × IsWithout ys z rest
taken_out [] z c = absurd (Contains-nil z c)
taken_out {Y = Y} (y ∷ ys) z c = by (Contains-cons_cases y ys z c) (λ r. taken_out ys z r)
  where
    by : (y ≡ z) ⊎ Contains ys z → (Contains ys z → (rest : List Y) × IsWithout ys z rest) →
        (rest : List Y) × IsWithout (y ∷ ys) z rest
    by (inl same) next = (ys, with_first y ys z same)
    by (inr r) next = (let (rest, is) = next r in (y ∷ rest, with_later y ys z rest is))

-- a row is not among those behind it
not_again : (row : List ℕ) (rows : List (List ℕ)) → IsAscending (row ∷ rows) → Contains rows row → ⊥
not_again row rows sorted c = not_below_itself row_cmp nat_list_cmp_total row
    (All-contains (λ q. row_cmp row q ≡ Less) rows row (All-after_first row_cmp row rows sorted) c)

-- rows that go into others, no two into one, are no more than these
pub go_into : (g : List ℕ → List ℕ) (rows others : List (List ℕ)) → IsAscending rows →
    ((x y : List ℕ) → Contains rows x → Contains rows y → g x ≡ g y → x ≡ y) →
    ((x : List ℕ) → Contains rows x → Contains others (g x)) → length rows ≤ length others
go_into g [] others sorted one held = omega arith
go_into g (x ∷ xs) others sorted one held = by (taken_out others (g x) (held x (Contains-cons_first x xs)))
    (λ rest is. go_into g xs rest (sorted_tail row_cmp x xs sorted)
    (λ a b p q. one a b (Contains-cons_rest x xs a p) (Contains-cons_rest x xs b q)) (still rest is))
  where
    still : (rest : List (List ℕ)) → IsWithout others (g x) rest → (y : List ℕ) → Contains xs y →
        Contains rest (g y)
    still rest is y c = elim (is.others (g y) (held y (Contains-cons_rest x xs y c))) [
      | inl e ↦ absurd (not_again x xs sorted (subst (Contains xs)
          (sym (one x y (Contains-cons_first x xs) (Contains-cons_rest x xs y c) e)) c))
      | inr q ↦ q
    ]

    by : (rest : List (List ℕ)) × IsWithout others (g x) rest →
        ((rest : List (List ℕ)) → IsWithout others (g x) rest → length xs ≤ length rest) →
        length (x ∷ xs) ≤ length others
    by (rest, is) next = (let few = next rest is in let long = is.long in omega (arith, few, long))

-- ---- the rows of an edge

abbrev tried : Task → Schema → State → Edge → List (List ℕ)
tried task schema s edge = filter (is_in_source task schema s edge.source)
    (tuples (length task.objects) (length edge.slots))

tried_many : (task : Task) (schema : Schema) (s : State) (edge : Edge) →
    length (tried task schema s edge) ≡ edge_rows task schema s edge
tried_many task schema s edge = length-filter (is_in_source task schema s edge.source)
    (tuples (length task.objects) (length edge.slots))

tried_has : (task : Task) (schema : Schema) (s : State) (edge : Edge) (row : List ℕ) →
    AreEdgeRows task schema s edge → length row ≡ length edge.slots →
    IsTrue (is_in_source task schema s edge.source row) → Contains (tried task schema s edge) row
tried_has task schema s edge row within long h =
    Contains-filter (is_in_source task schema s edge.source)
    (tuples (length task.objects) (length edge.slots)) row
    (is_tuple (length task.objects) (length edge.slots) row
    (record { many = long; below = λ x c. within row x h c })) h

pub rows_within : (task : Task) (schema : Schema) (s : State) (edge : Edge) (table : Rows) →
    HasObjectRows (length task.objects) table → ((row : List ℕ) → Contains table.rows row ↔
    IsTrue (is_in_source task schema s edge.source row)) → AreEdgeRows task schema s edge
rows_within task schema s edge table is rows row x h c = is.within row x ((rows row).1 h) c

-- the table of the source
pub table_few : (task : Task) (schema : Schema) (s : State) (edge : Edge) (table : Rows) →
    HasObjectRows (length task.objects) table → ((row : List ℕ) → Contains table.rows row ↔
    IsTrue (is_in_source task schema s edge.source row)) → length edge.slots ≡ table.arity →
    length table.rows ≤ edge_rows task schema s edge
table_few task schema s edge table is rows wide =
    let few = go_into (λ row. row) table.rows (tried task schema s edge) is.rows.ascending (λ x y p q e. e)
    (λ row c. tried_has task schema s edge row (rows_within task schema s edge table is rows)
    (All-contains (λ (r : List ℕ). length r ≡ table.arity) table.rows row is.rows.width c ∙ sym wide)
    ((rows row).0 c)) in
    let many = tried_many task schema s edge in omega (arith, few, many)

-- a relation over the edge's classes that holds no more than meets the edge
pub relation_few : (task : Task) (schema : Schema) (s : State) (edge : Edge) (relation : ClassRows) →
    IsRelation relation → ((c : ℕ) → Contains relation.classes c → Contains edge.slots (Class c)) →
    ((f : Assignment) → Holds relation f → IsTrue (meets_edge task schema s f edge)) →
    AreEdgeRows task schema s edge → length relation.rows ≤ edge_rows task schema s edge
relation_few task schema s edge relation is over met within =
    let few = go_into values relation.rows (tried task schema s edge) is.rows.ascending one held in
    let many = tried_many task schema s edge in omega (arith, few, many)
  where
    values : List ℕ → List ℕ
    values row = values_of (value_of relation.classes row) edge.slots

    held : (row : List ℕ) → Contains relation.rows row → Contains (tried task schema s edge) (values row)
    held row c =
        tried_has task schema s edge (values row) within
        (length-map edge.slots (slot_value (value_of relation.classes row)))
        (met (value_of relation.classes row) (subst (Contains relation.rows)
        (sym (row_held relation is row c)) c))

    class_value : (row : List ℕ) (c : ℕ) (k : ℕ) (low : k < length edge.slots) →
        get_or edge.slots k (Class c) ≡ Class c → get_or (values row) k 0 ≡ value_of relation.classes row c
    class_value row c k low at = list_map (slot_value (value_of relation.classes row)) edge.slots k
        (Class c) 0 low ∙ ap (slot_value (value_of relation.classes row)) at

    agree : (x y : List ℕ) → values x ≡ values y → Agree relation.classes (value_of relation.classes x)
        (value_of relation.classes y)
    agree x y same c m = of_place (over c m)
      where
        of_place : Contains edge.slots (Class c) → value_of relation.classes x c ≡ value_of relation.classes
            y c
        of_place (k, low, at) = sym (class_value x c k low at) ∙
            (ap (λ vs. get_or vs k 0) same ∙ class_value y c k low at)

    one : (x y : List ℕ) → Contains relation.rows x → Contains relation.rows y → values x ≡ values y → x ≡ y
    one x y p q same = sym (row_held relation is x p) ∙
        (map_agree relation.classes (value_of relation.classes x) (value_of relation.classes y)
        (agree x y same) ∙ row_held relation is y q)
