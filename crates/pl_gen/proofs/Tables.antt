-- The reduced tables of a schema's query, and how many probes they take.
use Rattle.std.proofs.Common.{◌≡◌, ℕ, ◌+◌, ◌-◌, ◌*◌, ◌<◌, ◌≤◌, ◌↔◌, suc, IsTrue, List, length}
use Rattle.std.proofs.Common.{get_or, Option, sym, ◌∙◌, ap, subst, arith, Result, Ok, Err}
use Rattle.std.specs.Prelude.{IfOk}
use Rattle.std.specs.declared.alloc.AllocError.{AllocError}
use Rattle.std.proofs.lemmas.List.{length-map, length-append}
use Rattle.std.proofs.lemmas.List.Elements.{Contains-get_or}
use Rattle.pl_task.specs.declared.data.Schema.{Schema}
use Rattle.pl_task.specs.declared.task.Task.{Task}
use Rattle.pl_task.specs.States.{State}
use Rattle.pl_hyper.specs.ClassOrder.{class_order}
use Rattle.pl_hyper.specs.declared.ear.Ear.{Ear}
use Rattle.pl_hyper.specs.Ears.{Removal, IsWalkable, leaving_order}
use Rattle.pl_hyper.proofs.Removals.{IsWalkable-removal}
use Rattle.pl_join.specs.Relation.{Assignment, ClassRows, HoldsAll}
use Rattle.pl_join.proofs.Assignments.{few_classes}
use Rattle.pl_reduce.specs.Nodes.{ReducedJoin}
use Rattle.pl_reduce.specs.Passes.{total_rows}
use Rattle.pl_reduce.specs.Plan.{AreColumns}
use Rattle.pl_reduce.specs.Recipes.{FixedJoin, AreGiven, relations_with}
use Rattle.pl_reduce.specs.Reduced.{IsReductionOf}
use Rattle.pl_normal.specs.declared.form.Edge.{Edge}
use Rattle.pl_normal.specs.EarRemoval.{ear_removal}
use Rattle.pl_normal.specs.Edges.{edges_of, sets_of}
use Rattle.pl_normal.specs.Filters.{local_of}
use Rattle.pl_normal.specs.Measures.{relation_rows}
use Rattle.pl_normal.specs.ParameterOrder.{classes_in_order}
use Rattle.pl_normal.specs.Queries.{is_join_answer}
use Rattle.pl_normal.specs.Recipes.{IsRecipeFor, AreNodesAt}
use Rattle.pl_normal.proofs.Removing.{ear_removal-edges, ear_removal-is}
use Rattle.pl_gen.specs.Entries.{AreTablesFor}
use Rattle.pl_gen.specs.Measures.{close_probes}
use Rattle.pl_normal.proofs.Leaving.{ears_of, leaving_within}
use Rattle.std.proofs.Math.Nat.{mul-le-mul_right}
use Rattle.std.proofs.Math.Nat.{mul-le-mul_left}

-- ---- the tables

-- what the reducer makes of the relations of all nodes
tables_for : (task : Task) (schema : Schema) (s : State) (plan : Removal) (given : List ClassRows)
    (join : ReducedJoin) → plan ≡ ear_removal (sets_of (edges_of schema)) → join.classes ≡ class_order plan →
    AreColumns plan join.nodes → IsReductionOf given join →
    ((f : Assignment) → HoldsAll given f ↔ IsTrue (is_join_answer task schema s f)) →
    AreTablesFor task schema s join
unfolding classes_in_order
tables_for task schema s plan given join is classes columns reduction held = record {
  classes = classes ∙ ap class_order is;
  columns = subst (λ p. AreColumns p join.nodes) is columns;
  same_join = λ f. (
    λ h. (held f).0 ((reduction.same_join f).0 h),
    λ h. (reduction.same_join f).1
        ((held f).1 h),
  );
  projections = λ k d low f. (
    λ h. (let (g, all, agree) = (reduction.projections k d low f).0 h in (g, (held g).0 all, agree)),
    λ h. (let (g, all, agree) = h in (reduction.projections k d low f).1 (g, (held g).1 all, agree)),
  );
}

pub tables_ok : (task : Task) (schema : Schema) (s t : State) (join : FixedJoin) (given : List ClassRows)
    (result : Result ReducedJoin AllocError) → IsRecipeFor task schema join → t ≡ s →
    IfOk result (λ (r : ReducedJoin). r.classes ≡ class_order join.plan) →
    IfOk result (λ (r : ReducedJoin). AreColumns join.plan r.nodes) → IfOk result (IsReductionOf given) →
    AreNodesAt task schema t given →
    IfOk result (AreTablesFor task schema s)
tables_ok task schema s t join given (Ok r) is same classes columns reduction nodes =
    tables_for task schema s join.plan given r is.plan classes columns reduction
    (subst (λ x. AreNodesAt task schema x given) same nodes).join
tables_ok task schema s t join given (Err e) is same classes columns reduction nodes = classes

-- ---- the nodes are no more than the edges

leaving_few : (schema : Schema) (plan : Removal) → IsWalkable plan → plan.edges ≡ sets_of (edges_of schema) →
    length plan.removed + length plan.core ≤ length (edges_of schema)
leaving_few schema plan walkable edges =
    let long : length plan.edges ≡ length (edges_of schema) = ap length edges ∙ length-map (edges_of schema)
    (λ (e : Edge). e.classes) in
    let few = few_classes (leaving_order plan) (length plan.edges) walkable.leave_once
    (λ k d low. leaving_within plan walkable (get_or (leaving_order plan) k d)
    (Contains-get_or (leaving_order plan) k d low)) in
    let parts = length-append (ears_of plan) plan.core in
    let ears = length-map plan.removed (λ (ear : Ear). ear.edge) in omega (arith, long, few, parts, ears)

nodes_few : (schema : Schema) (plan : Removal) → plan ≡ ear_removal (sets_of (edges_of schema)) →
    0 < length (edges_of schema) → suc (length plan.removed) ≤ length (edges_of schema)
nodes_few schema plan is some =
    let walkable : IsWalkable plan = subst IsWalkable (sym is)
    (IsWalkable-removal (ear_removal (sets_of (edges_of schema)))
    (ear_removal-is (sets_of (edges_of schema)))) in
    let edges : plan.edges ≡ sets_of (edges_of schema) = ap (λ (p : Removal). p.edges) is ∙ ear_removal-edges
    (sets_of (edges_of schema)) in
    let long : length plan.edges ≡ length (edges_of schema) = ap length edges ∙ length-map (edges_of schema)
    (λ (e : Edge). e.classes) in
    let filled : 0 < length plan.core = walkable.core_is_filled (subst (λ n. 0 < n) (sym long) some) in
    let few = leaving_few schema plan walkable edges in omega (arith, filled, few)

-- ---- the probes

both_parts : (l n r : ℕ) → (3 * n + 2 * l) * r ≡ 2 * l * r + 3 * n * r
both_parts l n r = grind arith

own_parts : (l r : ℕ) → (1 + 2 * l) * r ≡ r + 2 * l * r
own_parts l r = grind arith

one_less : (n r : ℕ) → r + (3 * suc n - 1) * r ≡ 3 * suc n * r
one_less n r = ap (λ k. r + k * r) (same n) ∙ more n r
  where
    more : (k q : ℕ) → q + (3 * k + 2) * q ≡ 3 * suc k * q
    more k q = grind arith

    same : (k : ℕ) → 3 * suc k - 1 ≡ 3 * k + 2
    same k = omega arith

counted : (start first last l n removed rows most : ℕ) → first ≤ start + (1 + 2 * l) * most → rows ≤ most →
    last ≤ first + (3 * suc removed - 1) * rows → suc removed ≤ n → last ≤ start + (3 * n + 2 * l) * most
counted start first last l n removed rows most made few reduced many =
    let down = mul-le-mul_left {m = rows} {n = most} (3 * suc removed - 1) few in
    let own = own_parts l most in
    let nodes = one_less removed most in
    let up = mul-le-mul_right {m = 3 * suc removed} {n = 3 * n} most (omega (arith, many)) in
    let whole = both_parts l n most in omega (arith, made, reduced, down, own, nodes, up, whole)

pub tables_taken : (task : Task) (schema : Schema) (s t : State) (join : FixedJoin)
    (given : List (Option ClassRows)) (start first last : ℕ) → IsRecipeFor task schema join → t ≡ s →
    0 < length (edges_of schema) → AreGiven join given →
    total_rows (relations_with join.fixed given) ≤ relation_rows task t schema →
    first ≤ start + (1 + 2 * length (local_of schema)) * relation_rows task t schema →
    last ≤ first + (3 * length given - 1) * total_rows (relations_with join.fixed given) →
    last ≤ start + close_probes task s schema
tables_taken task schema s t join given start first last is same some are few made reduced =
    subst (λ x. last ≤ start + close_probes task x schema) same
    (counted start first last (length (local_of schema)) (length (edges_of schema)) (length join.plan.removed)
    (total_rows (relations_with join.fixed given)) (relation_rows task t schema) made few
    (subst (λ n. last ≤ first + (3 * n - 1) * total_rows (relations_with join.fixed given)) are.many reduced)
    (nodes_few schema join.plan is.plan some))

-- whatever holds anyhow
pub if_ok : {X E : Type 0} (P : Type 0) (result : Result X E) → P → IfOk result (λ _. P)
if_ok P (Ok x) h = h
if_ok P (Err e) h = tt
