-- How many rows the relation of an edge has, and how many probes it takes.
use Rattle.std.proofs.Common.{◌≡◌, ℕ, ◌+◌, ◌*◌, ◌<◌, ◌≤◌, ◌↔◌, IsTrue, List, length, subst}
use Rattle.std.proofs.Common.{arith, Contains, Result, Ok, Err, IfOk}
use Rattle.std.specs.List.{list_all}
use Rattle.std.proofs.lemmas.List.Elements.{Contains-get_or}
use Rattle.pl_rows.specs.Rows.{Rows}
use Rattle.pl_task.specs.declared.data.Schema.{Schema}
use Rattle.pl_task.specs.declared.task.Task.{Task}
use Rattle.pl_task.specs.States.{State}
use Rattle.pl_join.specs.Relation.{ClassRows, IsRelation}
use Rattle.pl_normal.specs.declared.form.Edge.{Edge}
use Rattle.pl_normal.specs.declared.form.Placed.{Placed}
use Rattle.pl_normal.specs.Edges.{edges_of}
use Rattle.pl_normal.specs.Measures.{edge_rows}
use Rattle.pl_normal.specs.Query.{is_in_source, meets_edge}
use Rattle.pl_normal.specs.StateTables.{HasObjectRows}
use Rattle.pl_normal.specs.Queries.{AreEdgeRows, IsEdgeOf, IsSieved, edge_at, lets_pass}
use Rattle.pl_normal.proofs.Edging.{and_split}
use Rattle.pl_normal.proofs.Few.{rows_within, table_few, relation_few}
use Rattle.pl_normal.proofs.Forms.{SchemaOf, edge_of, no_edge}
use Rattle.std.proofs.Math.Nat.{mul-le-mul_right}

-- ---- the relation of an edge as it is made

module _ (task : Task) (schema : Schema) (s : State) where
  pub source_within : (e : ℕ) (edge : Edge) (table : Rows) → edge ≡ edge_at (edges_of schema) e →
      HasObjectRows (length task.objects) table →
      ((row : List ℕ) → Contains table.rows row ↔ IsTrue (is_in_source task schema s edge.source row)) →
      AreEdgeRows task schema s (edge_at (edges_of schema) e)
  source_within e edge table here is rows = subst (AreEdgeRows task schema s) here
      (rows_within task schema s edge table is rows)

  pub source_few : (e : ℕ) (edge : Edge) (table : Rows) → edge ≡ edge_at (edges_of schema) e →
      HasObjectRows (length task.objects) table →
      ((row : List ℕ) → Contains table.rows row ↔ IsTrue (is_in_source task schema s edge.source row)) →
      length edge.slots ≡ table.arity →
      length table.rows ≤ edge_rows task schema s (edge_at (edges_of schema) e)
  source_few e edge table here is rows wide =
      subst (λ (x : Edge). length table.rows ≤ edge_rows task schema s x) here
      (table_few task schema s edge table is rows wide)

  pub sieved_few : (edges : List Edge) (e : ℕ) (passed : List Placed) (relation : ClassRows) →
      SchemaOf task schema → edges ≡ edges_of schema → e < length edges →
      AreEdgeRows task schema s (edge_at (edges_of schema) e) → IsRelation relation →
      IsSieved task schema s (edge_at edges e) e passed relation →
      length relation.rows ≤ edge_rows task schema s (edge_at (edges_of schema) e)
  sieved_few edges e passed relation of same low within is sieved =
      let here : IsSieved task schema s (edge_at (edges_of schema) e) e passed relation =
      subst (λ xs. IsSieved task schema s (edge_at xs e) e passed relation) same sieved in
      let edge_is : IsEdgeOf task schema (edge_at (edges_of schema) e) =
      edge_of task schema (edge_at (edges_of schema) e) of
      (Contains-get_or (edges_of schema) e no_edge (subst (λ xs. e < length xs) same low)) in
      relation_few task schema s (edge_at (edges_of schema) e) relation is
      (λ c h. (edge_is.set c).0 ((here.classes c).0 h))
      (λ f h. ((and_split (meets_edge task schema s f (edge_at (edges_of schema) e))
      (list_all (lets_pass s f e) passed)).0 ((here.rows f).0 h)).0) within

times_more : (i r : ℕ) → (i + 1) * r ≡ i * r + r
times_more i r = grind arith

-- a filter more
pub filter_taken : (first before after final i rows most : ℕ) → before ≤ first + i * (2 * most) →
    after ≤ before + 2 * rows → rows ≤ most → final ≡ after → final ≤ first + (i + 1) * (2 * most)
filter_taken first before after final i rows most old cost few same = let more = times_more i (2 * most) in
    omega (arith, old, cost, few, same, more)

pub filter_passed : (first before final i most : ℕ) → before ≤ first + i * (2 * most) → final ≡ before →
    final ≤ first + (i + 1) * (2 * most)
filter_passed first before final i most old same = let more = times_more i (2 * most) in
    omega (arith, old, same, more)

-- all filters
pub filters_taken : (first after i many local most : ℕ) → after ≤ first + i * (2 * most) → i ≤ many →
    many ≡ local → after ≤ first + local * (2 * most)
filters_taken first after i many local most filters low same = let all =
    mul-le-mul_right {m = i} {n = local} (2 * most) (omega (arith, low, same)) in
    omega (arith, filters, all)

-- the selection and all filters
pub edge_taken : {T E : Type 0} (result : Result T E) (start first after rows most filters : ℕ) →
    first ≤ start + rows → rows ≤ most → IfOk result (λ _. after ≤ first + filters) →
    IfOk result (λ _. after ≤ start + (most + filters))
edge_taken (Ok r) start first after rows most filters selected few passed =
    omega (arith, selected, few, passed)
edge_taken (Err e) start first after rows most filters selected few passed = tt
