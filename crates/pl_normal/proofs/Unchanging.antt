-- What no state changes: the edges and filters over static predicates, and the relations of the nodes that
-- have no others.
use Rattle.std.proofs.Common.{◌≡◌, ℕ, ◌<◌, ◌==◌, ◌&&◌, ◌||◌, ◌↔◌, Bool, true, false, not, IsTrue, List, []}
use Rattle.std.proofs.Common.{◌∷◌, length, get_or, Option, Some, None, refl, sym, ◌∙◌, ap, subst, arith}
use Rattle.std.proofs.Common.{Contains}
use Rattle.std.specs.List.{list_all}
use Rattle.std.proofs.lemmas.Bool.{and_parts}
use Rattle.std.proofs.lemmas.List.{get_or_default}
use Rattle.std.proofs.lemmas.List.Elements.{Contains-get_or}
use Rattle.pl_rows.specs.Rows.{Rows}
use Rattle.pl_rows.proofs.Canonical.{Contains-cons_first, Contains-cons_rest}
use Rattle.pl_task.specs.declared.data.Schema.{Schema}
use Rattle.pl_task.specs.declared.task.Task.{Task}
use Rattle.pl_task.specs.States.{State}
use Rattle.pl_task.specs.WellFormed.{is_fluent}
use Rattle.pl_join.specs.Relation.{Assignment, ClassRows, Holds}
use Rattle.pl_normal.specs.declared.form.Edge.{Edge}
use Rattle.pl_normal.specs.declared.form.Placed.{Placed}
use Rattle.pl_normal.specs.declared.form.Sieve.{Sieve}
use Rattle.pl_normal.specs.declared.form.Sieve.TheVariants as sieve
use Rattle.pl_normal.specs.declared.form.Source.{Source}
use Rattle.pl_normal.specs.declared.form.Source.TheVariants as source
use Rattle.pl_normal.specs.Edges.{edges_of}
use Rattle.pl_normal.specs.Filters.{local_of}
use Rattle.pl_normal.specs.Queries.{IsEdgeOf, IsSieveOf, IsSourceOf, edge_at, lets_pass, meets_at}
use Rattle.pl_normal.specs.Query.{KeepsStatic, is_in_source, meets_sieve, values_of}
use Rattle.pl_normal.specs.Recipes.{is_fixed_source, is_fixed_sieve, is_fixed_for, is_fixed_among}
use Rattle.pl_normal.specs.Recipes.{is_fixed_edge, is_fixed_node, is_missing, has_no_table, meets_node}
use Rattle.pl_normal.specs.Recipes.{node_edges, plan_of, IsNodeRelation, IsFixedRelation}
use Rattle.pl_normal.specs.Tables.{AreStatics, IsStatic, row_atom}
use Rattle.pl_normal.proofs.Forms.{SchemaOf, edge_of, local_sieve_of, no_edge}
use Rattle.std.proofs.lemmas.Bool.{not-true}

-- two tests are one on lists that pass a third
same_all : {X : Type 0} (p q r : X → Bool) (xs : List X) → list_all r xs ≡ true →
    ((x : X) → r x ≡ true → p x ≡ q x) →
    list_all p xs ≡ list_all q xs
same_all p q r [] h same = refl
same_all p q r (x ∷ xs) h same =
    let both = and_parts (r x) (list_all r xs) h in
    (λ i. same x both.0 i && same_all p q r xs both.1 same i)

same_or : (b x y z : Bool) → (not b || x) ≡ true → (x ≡ true → y ≡ z) → (not b || y) ≡ (not b || z)
same_or true x y z h same = same h
same_or false x y z h same = refl

module _ (task : Task) (s t : State) (keeps : KeepsStatic task s) (also : KeepsStatic task t) where
  same_atom : (p : ℕ) (row : List ℕ) → not (is_fluent task.schemas p) ≡ true →
      s (row_atom p row) ≡ t (row_atom p row)
  same_atom p row h =
      let static = not-true (is_fluent task.schemas p) h in
      keeps (row_atom p row) static ∙ sym (also (row_atom p row) static)

  same_source : (schema : Schema) (x : Source) (row : List ℕ) →
      is_fixed_source (is_fluent task.schemas) x ≡ true →
      is_in_source task schema s x row ≡ is_in_source task schema t x row
  same_source schema (source.Kind p) row h = refl
  same_source schema (source.Predicate p) row h = same_atom p row h

  same_sieve : (f : Assignment) (x : Sieve) → is_fixed_sieve (is_fluent task.schemas) x ≡ true →
      meets_sieve s f x ≡ meets_sieve t f x
  same_sieve f (sieve.NotEqual a b) h = refl
  same_sieve f (sieve.Absent p slots) h = ap not (same_atom p (values_of f slots) h)

  same_placed : (f : Assignment) (e : ℕ) (placed : Placed) →
      is_fixed_for (is_fluent task.schemas) e placed ≡ true →
      lets_pass s f e placed ≡ lets_pass t f e placed
  same_placed f e placed h =
      same_or (placed.edge == e) (is_fixed_sieve (is_fluent task.schemas) placed.sieve)
      (meets_sieve s f placed.sieve) (meets_sieve t f placed.sieve)
      h (same_sieve f placed.sieve)

  pub fixed_edge : (schema : Schema) (f : Assignment) (e : ℕ) → is_fixed_edge task schema e ≡ true →
      meets_at task schema s f e ≡ meets_at task schema t f e
  unfolding is_fixed_among meets_at
  fixed_edge schema f e h =
      let both = and_parts (is_fixed_source (is_fluent task.schemas) (edge_at (edges_of schema) e).source)
      (list_all (is_fixed_for (is_fluent task.schemas) e) (local_of schema)) h in
      (λ i. same_source schema (edge_at (edges_of schema) e).source
      (values_of f (edge_at (edges_of schema) e).slots) both.0 i
      && same_all (lets_pass s f e) (lets_pass t f e) (is_fixed_for (is_fluent task.schemas) e)
      (local_of schema) both.1 (same_placed f e) i)

  pub fixed_node : (schema : Schema) (f : Assignment) (k : ℕ) → is_fixed_node task schema k ≡ true →
      meets_node task schema s f k ≡ meets_node task schema t f k
  fixed_node schema f k h =
      same_all (meets_at task schema s f) (meets_at task schema t f) (is_fixed_edge task schema)
      (node_edges (plan_of schema) k) h (λ e is. fixed_edge schema f e is)

-- the relation of a fixed node in one state is that in each
pub fixed_relation : (task : Task) (schema : Schema) (s : State) (k : ℕ) (relation : ClassRows) →
    KeepsStatic task s →
    is_fixed_node task schema k ≡ true → IsNodeRelation task schema s k relation →
    IsFixedRelation task schema k relation
fixed_relation task schema s k relation keeps fixed is t also = record {
  whole = is.whole;
  classes = is.classes;
  rows = λ f. subst (λ b. Holds relation f ↔ IsTrue b) (fixed_node task s t keeps also schema f k fixed)
      (is.rows f);
}

-- ---- by the tables of static predicates

-- a static predicate has a table, and a fluent one none
missing_is : (task : Task) (p : ℕ) (x : Option Rows) → IsStatic task p x →
    is_missing x ≡ is_fluent task.schemas p
missing_is task p None h = sym h
missing_is task p (Some table) h = sym h.0

table_is : (task : Task) (statics : List (Option Rows)) (p : ℕ) → AreStatics task statics →
    p < length task.predicates →
    has_no_table statics p ≡ is_fluent task.schemas p
table_is task statics p are low =
    let many = are.many in missing_is task p (get_or statics p None)
    (are.each p None (omega (arith, many, low)))

source_is : (task : Task) (schema : Schema) (statics : List (Option Rows)) (x : Source) →
    AreStatics task statics → IsSourceOf task schema x →
    is_fixed_source (has_no_table statics) x ≡ is_fixed_source (is_fluent task.schemas) x
source_is task schema statics (source.Kind p) are of = refl
source_is task schema statics (source.Predicate p) are of =
    ap not (table_is task statics p are (of.predicate p refl))

sieve_is : (task : Task) (statics : List (Option Rows)) (x : Sieve) → AreStatics task statics →
    IsSieveOf task x →
    is_fixed_sieve (has_no_table statics) x ≡ is_fixed_sieve (is_fluent task.schemas) x
sieve_is task statics (sieve.NotEqual a b) are of = refl
sieve_is task statics (sieve.Absent p slots) are of = ap not
    (table_is task statics p are (of.predicate p slots refl))

pub all_agree : {X : Type 0} (p q : X → Bool) (xs : List X) → ((x : X) → Contains xs x → p x ≡ q x) →
    list_all p xs ≡ list_all q xs
all_agree p q [] same = refl
all_agree p q (x ∷ xs) same = (λ i. same x (Contains-cons_first x xs) i && all_agree p q xs
    (λ y c. same y (Contains-cons_rest x xs y c)) i)

pub fixed_by_tables : (task : Task) (schema : Schema) (statics : List (Option Rows)) (edges : List Edge)
    (local : List Placed) (e : ℕ) →
    AreStatics task statics → SchemaOf task schema → edges ≡ edges_of schema → local ≡ local_of schema →
    e < length edges →
    is_fixed_among (has_no_table statics) edges local e ≡ is_fixed_edge task schema e
unfolding is_fixed_among
fixed_by_tables task schema statics edges local e are of same locals low =
    ap (λ es. is_fixed_source (has_no_table statics) (edge_at es e).source && list_all
    (is_fixed_for (has_no_table statics) e) local) same
    ∙ (ap (λ ls. is_fixed_source (has_no_table statics) (edge_at (edges_of schema) e).source && list_all
    (is_fixed_for (has_no_table statics) e) ls) locals
    ∙ (λ i. source_is task schema statics (edge_at (edges_of schema) e).source are edge_is.from i
    && all_agree (is_fixed_for (has_no_table statics) e) (is_fixed_for (is_fluent task.schemas) e)
    (local_of schema)
    (λ placed c. ap (λ b. not (placed.edge == e) || b) (sieve_is task statics placed.sieve are
    (local_sieve_of task schema placed of c))) i))
  where
    edge_is : IsEdgeOf task schema (edge_at (edges_of schema) e)
    edge_is =
        edge_of task schema (edge_at (edges_of schema) e) of
        (Contains-get_or (edges_of schema) e no_edge (subst (λ xs. e < length xs) same low))

-- ---- the test of an edge as it is made

pub among_source : (changes : ℕ → Bool) (edges : List Edge) (local : List Placed) (e : ℕ) (d : Edge)
    (b : Bool) → e < length edges →
    b ≡ is_fixed_source changes (get_or edges e d).source → b ≡ false →
    false ≡ is_fixed_among changes edges local e
unfolding is_fixed_among
among_source changes edges local e d b low is fails =
    ap (λ x. x && list_all (is_fixed_for changes e) local)
    (sym fails ∙ (is ∙ ap (λ (y : Edge). is_fixed_source changes y.source)
    (get_or_default edges e d no_edge low)))

pub among_filters : (changes : ℕ → Bool) (edges : List Edge) (local : List Placed) (e : ℕ) (d : Edge)
    (b r : Bool) → e < length edges →
    b ≡ is_fixed_source changes (get_or edges e d).source → b ≡ true →
    r ≡ list_all (is_fixed_for changes e) local →
    r ≡ is_fixed_among changes edges local e
unfolding is_fixed_among
among_filters changes edges local e d b r low is holds all =
    all ∙ ap (λ x. x && list_all (is_fixed_for changes e) local)
    (sym holds ∙ (is ∙ ap (λ (y : Edge). is_fixed_source changes y.source)
    (get_or_default edges e d no_edge low)))
