-- The relation of a node of one edge has no more rows than the edge's source.
use Rattle.std.proofs.Common.{◌≡◌, ℕ, ◌<◌, ◌≤◌, zero, suc, IsTrue, List, [], ◌∷◌, length, Option, sym, ◌∙◌}
use Rattle.std.proofs.Common.{ap, subst, arith, Contains}
use Rattle.std.specs.Prelude.{slice_index}
use Rattle.std.specs.Int.{bit_at}
use Rattle.std.specs.List.{list_all}
use Rattle.std.proofs.lemmas.List.Elements.{All-contains, Contains-get_or}
use Rattle.pl_rows.specs.Rows.{Rows}
use Rattle.pl_rows.proofs.Canonical.{Contains-cons_first}
use Rattle.pl_task.specs.declared.data.Schema.{Schema}
use Rattle.pl_task.specs.declared.task.Task.{Task}
use Rattle.pl_task.specs.States.{State}
use Rattle.pl_hyper.specs.Ears.{ear_at}
use Rattle.pl_hyper.proofs.Orders.{in_classes}
use Rattle.pl_join.specs.Relation.{Assignment, ClassRows}
use Rattle.pl_normal.specs.Edges.{edges_of}
use Rattle.pl_normal.specs.Filters.{local_of}
use Rattle.pl_normal.specs.Measures.{edge_rows, relation_rows}
use Rattle.pl_normal.specs.Query.{meets_edge}
use Rattle.pl_normal.specs.Queries.{IsEdgeOf, edge_at, lets_pass, meets_at}
use Rattle.pl_normal.specs.Recipes.{IsNodeRelation, IsOverNode, node_edges, plan_of}
use Rattle.pl_normal.specs.StateTables.{AreTables, state_of_tables}
use Rattle.pl_reduce.specs.Passes.{total_rows}
use Rattle.pl_normal.proofs.Asking.{source_objects}
use Rattle.pl_normal.proofs.Edging.{and_split}
use Rattle.pl_normal.proofs.Few.{relation_few}
use Rattle.pl_normal.proofs.Forms.{SchemaOf, edge_of, no_edge}
use Rattle.pl_normal.proofs.Joins.{AreNodeRelations, ear_within, held_set, no_ear, one_met, one_order}
use Rattle.pl_normal.proofs.Joins.{plan_long, plan_walkable}
use Rattle.pl_normal.proofs.Leaving.{all_few}

first_same : (x y : ℕ) → x ∷ [] ≡ y ∷ [] → x ≡ y
first_same x y h = ap (λ xs. slice_index xs 0) h

edge_within : (schema : Schema) (k e : ℕ) → node_edges (plan_of schema) k ≡ e ∷ [] →
    k < suc (length (plan_of schema).removed) → e < length (edges_of schema)
edge_within schema zero e only low =
    subst (λ n. e < n) (plan_long schema) (All-contains (λ x. x < length (plan_of schema).edges)
    (plan_of schema).core e
    (plan_walkable schema).core_is_edges (subst (λ xs. Contains xs e) (sym only) (Contains-cons_first e [])))
edge_within schema (suc i) e only low =
    subst (λ x. x < length (edges_of schema)) (first_same (ear_at (plan_of schema) i no_ear).edge e only)
    (ear_within schema i no_ear (omega (arith, low)))

node_classes : (schema : Schema) (k e c : ℕ) (classes : List ℕ) → node_edges (plan_of schema) k ≡ e ∷ [] →
    e < length (edges_of schema) →
    IsOverNode (plan_of schema) k classes → Contains classes c →
    bit_at (edge_at (edges_of schema) e).classes c ≡ 1
node_classes schema zero e c classes only low over h =
    (held_set schema e c low).1 (in_classes (slice_index (plan_of schema).edges e) c
    (subst (λ xs. Contains xs c) (over ∙ one_order (plan_of schema) e only) h)).1
node_classes schema (suc i) e c classes only low over h =
    (held_set schema e c low).1 (subst (λ x. bit_at (slice_index (plan_of schema).edges x) c ≡ 1)
    (first_same (ear_at (plan_of schema) i no_ear).edge e only) ((over c).0 h))

met_edge : (task : Task) (schema : Schema) (s : State) (f : Assignment) (e : ℕ) →
    IsTrue (meets_at task schema s f e) → IsTrue (meets_edge task schema s f (edge_at (edges_of schema) e))
unfolding meets_at
met_edge task schema s f e h = ((and_split (meets_edge task schema s f (edge_at (edges_of schema) e))
    (list_all (lets_pass s f e) (local_of schema))).0 h).0

node_few : (task : Task) (schema : Schema) (tables : List (Option Rows)) (k e : ℕ) (relation : ClassRows) →
    SchemaOf task schema → AreTables task tables →
    node_edges (plan_of schema) k ≡ e ∷ [] → e < length (edges_of schema) →
    IsNodeRelation task schema (state_of_tables task tables) k relation →
    length relation.rows ≤ edge_rows task schema (state_of_tables task tables) (edge_at (edges_of schema) e)
node_few task schema tables k e relation of are only low is =
    relation_few task schema (state_of_tables task tables) (edge_at (edges_of schema) e) relation is.whole
    (λ c h. (edge_is.set c).0 (node_classes schema k e c relation.classes only low is.classes h))
    (λ f h. met_edge task schema (state_of_tables task tables) f e
    ((one_met (meets_at task schema (state_of_tables task tables) f e)).1
    (subst (λ xs. IsTrue (list_all (meets_at task schema (state_of_tables task tables) f) xs)) only
    ((is.rows f).0 h))))
    (λ row x h m. source_objects task schema tables (edge_at (edges_of schema) e).source row x are h m)
  where
    edge_is : IsEdgeOf task schema (edge_at (edges_of schema) e)
    edge_is = edge_of task schema (edge_at (edges_of schema) e) of
        (Contains-get_or (edges_of schema) e no_edge low)

-- where one edge stays, the rows of all nodes are no more than those of all edges
pub nodes_few : (task : Task) (schema : Schema) (tables : List (Option Rows)) (all : List ClassRows) →
    SchemaOf task schema → AreTables task tables →
    0 < length (edges_of schema) → length (plan_of schema).core ≤ 1 →
    AreNodeRelations task schema (state_of_tables task tables) all →
    total_rows all ≤ relation_rows task (state_of_tables task tables) schema
nodes_few task schema tables all of tables_are some acyclic are =
    all_few task schema (state_of_tables task tables) all some acyclic are
    (λ k e relation only low is. node_few task schema tables k e relation of tables_are only
    (edge_within schema k e only (subst (λ n. k < n) are.many low)) is)
