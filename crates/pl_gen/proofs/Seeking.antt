-- A schema no edge of which has a row has no answer, so nothing is sought where a walk is resumed there.
use Rattle.std.proofs.Common.{◌≡◌, ℕ, ◌+◌, ◌*◌, ◌<◌, ◌≤◌, ◌==◌, inl, inr, Bool, true, false, cond, IsTrue}
use Rattle.std.proofs.Common.{List, [], ◌∷◌, length, filter, slice_get, Some, refl, sym, ap, subst, arith}
use Rattle.std.proofs.Common.{Contains, eqb-true}
use Rattle.std.specs.List.{list_all, sum_by}
use Rattle.std.proofs.lemmas.Bool.{and_parts}
use Rattle.std.proofs.lemmas.List.Sums.{length-filter, sum_by-cons}
use Rattle.pl_rows.proofs.Canonical.{Contains-nil, Contains-cons_cases, Contains-cons_first}
use Rattle.pl_task.specs.declared.data.Schema.{Schema}
use Rattle.pl_task.specs.declared.task.Task.{Task}
use Rattle.pl_task.specs.States.{State}
use Rattle.pl_join.specs.declared.slot.Slot.TheVariants.{Class}
use Rattle.pl_join.specs.Relation.{Assignment}
use Rattle.pl_join.proofs.Members.{Contains-filter}
use Rattle.pl_reduce.specs.Nodes.{ReducedJoin}
use Rattle.pl_reduce.specs.Reduced.{JoinHolds}
use Rattle.pl_normal.specs.declared.form.Edge.{Edge}
use Rattle.pl_normal.specs.declared.form.Placed.{Placed}
use Rattle.pl_normal.specs.declared.form.Source.TheVariants as source
use Rattle.pl_normal.specs.Edges.{type_edge, edges_of}
use Rattle.pl_normal.specs.Filters.{local_of}
use Rattle.pl_normal.specs.Guards.{types_at}
use Rattle.pl_normal.specs.Measures.{edge_rows, relation_rows}
use Rattle.pl_normal.specs.ParameterOrder.{classes_in_order}
use Rattle.pl_normal.specs.Queries.{is_join_answer}
use Rattle.pl_normal.specs.Query.{is_in_source, meets_edge, meets_sieve}
use Rattle.pl_normal.specs.Slots.{class_set}
use Rattle.pl_normal.specs.Steps.{tuples}
use Rattle.pl_normal.proofs.Answering.{type_edge_among}
use Rattle.pl_normal.proofs.KindLemmas.{typed_within}
use Rattle.pl_normal.proofs.Listing.{is_tuple}
use Rattle.pl_normal.proofs.Lists.{passes_all}
use Rattle.pl_normal.proofs.Ordered.{in_order_unfixed, unfixed_itself}
use Rattle.pl_gen.specs.Entries.{AreTablesFor}
use Rattle.pl_gen.specs.Walks.{PreparedState, state_of_prepared, sought_classes, resume_reads}
use Rattle.pl_gen.proofs.Giving.{number_few}

-- ---- an answer is a row of an edge

filled : {X : Type 0} (xs : List X) (x : X) → Contains xs x → 0 < length xs
filled [] x c = absurd (Contains-nil x c)
filled (y ∷ ys) x c = omega arith

edge_few : (w : Edge → ℕ) (edges : List Edge) (e : Edge) → Contains edges e → w e ≤ sum_by w edges
edge_few w [] e c = absurd (Contains-nil e c)
edge_few w (x ∷ xs) e c = by (λ r. edge_few w xs e r)
  where
    by : (Contains xs e → w e ≤ sum_by w xs) → w e ≤ sum_by w (x ∷ xs)
    by rest = elim (Contains-cons_cases x xs e c) [
      | inl same ↦ let own = ap w same in let whole = sum_by-cons w x xs in omega (arith, own, whole)
      | inr r ↦ let less = rest r in let whole = sum_by-cons w x xs in omega (arith, less, whole)
    ]

-- the value of an unfixed class is a row of the edge of its types
some_row : (task : Task) (schema : Schema) (s : State) (f : Assignment) (c : ℕ) →
    IsTrue (is_join_answer task schema s f) → Contains (classes_in_order schema) c →
    0 < relation_rows task s schema
unfolding is_join_answer relation_rows
some_row task schema s f c h among =
    let both = and_parts (list_all (meets_edge task schema s f) (edges_of schema))
    (list_all (λ (placed : Placed). meets_sieve s f placed.sieve) (local_of schema)) h in
    let own = unfixed_itself schema c (in_order_unfixed schema c among) in
    let held : Contains (edges_of schema) the_edge = type_edge_among schema c the_edge own.0
    (subst (λ slot. Contains (type_edge c slot) the_edge) (sym own.1)
    (Contains-cons_first the_edge [])) in
    let met : is_in_source task schema s (source.Kind c) (f c ∷ []) ≡ true = passes_all
    (meets_edge task schema s f) (edges_of schema) the_edge both.0 held in
    let row = Contains-filter (is_in_source task schema s (source.Kind c)) (tuples (length task.objects) 1)
    (f c ∷ []) (is_tuple (length task.objects) 1 (f c ∷ []) (record { many = refl; below = within met }))
    met in
    let some = filled (filter (is_in_source task schema s (source.Kind c)) (tuples (length task.objects) 1))
    (f c ∷ []) row in
    let many = length-filter (is_in_source task schema s (source.Kind c)) (tuples (length task.objects) 1) in
    let few = edge_few (edge_rows task schema s) (edges_of schema) the_edge held in
    omega (arith, some, many, few)
  where
    the_edge : Edge
    the_edge = record { source = source.Kind c; slots = Class c ∷ []; classes = class_set (Class c ∷ []) }

    within : is_in_source task schema s (source.Kind c) (f c ∷ []) ≡ true → (x : ℕ) → Contains (f c ∷ []) x →
        x < length task.objects
    within met x m = elim (Contains-cons_cases (f c) [] x m) [
      | inl e ↦ subst (λ y. y < length task.objects) e (typed_within task (types_at schema.parameters c) (f c)
          met)
      | inr r ↦ absurd (Contains-nil x r)
    ]

-- ---- what is sought

pub sought_few : (task : Task) (schema : Schema) (s : State) (join : ReducedJoin) (before after : ℕ) →
    AreTablesFor task schema s join → after ≤ before + 3 * length join.classes →
    (((f : Assignment) → JoinHolds join f → ⊥) → after ≡ before) →
    after ≤ before + 3 * sought_classes task s schema
unfolding sought_classes
sought_few task schema s join before after tables cost free = by (relation_rows task s schema == 0) refl
  where
    wide : length join.classes ≡ length (classes_in_order schema)
    wide = ap length tables.classes

    none : (classes : List ℕ) → classes_in_order schema ≡ classes → relation_rows task s schema ≡ 0 →
        after ≤ before + 3 * 0
    none [] bare nothing = let long = ap length bare in omega (arith, cost, wide, long)
    none (c ∷ cs) bare nothing =
        let same = free (λ f h. empty f h) in omega (arith, same)
      where
        empty : (f : Assignment) → JoinHolds join f → ⊥
        empty f h = let some = some_row task schema s f c ((tables.same_join f).0 h)
            (subst (λ xs. Contains xs c) (sym bare) (Contains-cons_first c cs)) in
            absurd (omega (arith, some, nothing))

    by : (b : Bool) → (relation_rows task s schema == 0) ≡ b →
        after ≤ before + 3 * cond {A = ℕ} b 0 (length (classes_in_order schema))
    by true at = none (classes_in_order schema) refl (eqb-true (relation_rows task s schema) 0 at)
    by false at = omega (arith, cost, wide)

pub resumed_few : (p : PreparedState) (number before after : ℕ) (schema : Schema) →
    slice_get p.task.schemas number ≡ Some schema →
    after ≤ before + 3 * sought_classes p.task (state_of_prepared p) schema → after ≤ before + resume_reads p
resumed_few p number before after schema found few = let less = number_few
    (λ x. 3 * sought_classes p.task (state_of_prepared p) x) p.task.schemas number schema found in
    omega (arith, few, less)
