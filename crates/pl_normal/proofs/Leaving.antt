-- Each edge of a schema is in one node: the rows of all nodes, and the probes that they take, are no more
-- than those of all edges.
use Rattle.std.proofs.Common.{◌≡◌, ◌≢◌, ℕ, ◌+◌, ◌*◌, ◌<◌, ◌≤◌, inl, inr, zero, suc, List, [], ◌∷◌, ◌++◌}
use Rattle.std.proofs.Common.{length, map, take, get_or, refl, sym, ◌∙◌, ap, subst, arith, Contains}
use Rattle.std.specs.Prelude.{slice_index}
use Rattle.std.specs.List.{AllPairs, sum_by, range_with_len}
use Rattle.std.proofs.lemmas.List.{length-map, take_more, take_all, get_or-map as list_map}
use Rattle.std.proofs.lemmas.List.Elements.{All-contains, Contains-append_cases}
use Rattle.std.proofs.lemmas.List.Sums.{sum_by-cons, sum_by-append, sum_by_push}
use Rattle.pl_rows.proofs.Canonical.{Contains-cons_first, Contains-cons_rest}
use Rattle.pl_task.specs.declared.data.Schema.{Schema}
use Rattle.pl_task.specs.declared.task.Task.{Task}
use Rattle.pl_task.specs.States.{State}
use Rattle.pl_hyper.specs.declared.ear.Ear.{Ear}
use Rattle.pl_hyper.specs.Ears.{Removal, IsWalkable, ear_at, leaving_order}
use Rattle.pl_hyper.proofs.Members.{range_contains}
use Rattle.pl_join.specs.Relation.{ClassRows}
use Rattle.pl_join.proofs.Members.{Contains-from_map}
use Rattle.pl_reduce.specs.Passes.{total_rows}
use Rattle.pl_reduce.specs.Plan.{relation_at}
use Rattle.pl_normal.specs.declared.form.Edge.{Edge}
use Rattle.pl_normal.specs.declared.form.NormalSchema.{NormalSchema}
use Rattle.pl_normal.specs.Edges.{edges_of, sets_of}
use Rattle.pl_normal.specs.Measures.{edge_rows, relation_rows}
use Rattle.pl_normal.specs.Queries.{edge_at, sieved_probes}
use Rattle.pl_normal.specs.Recipes.{plan_of, node_edges, IsNodeRelation}
use Rattle.pl_normal.proofs.Few.{IsWithout, taken_out}
use Rattle.pl_normal.proofs.Forms.{no_edge}
use Rattle.pl_normal.proofs.Joins.{no_ear, plan_walkable, AreNodeRelations, plan_long, edges_here}

-- ---- each edge is read once

rest_apart : (x : ℕ) (xs : List ℕ) → AllPairs (λ a b. a ≢ b) (x ∷ xs) → AllPairs (λ a b. a ≢ b) xs
rest_apart x xs apart i j d lt low = apart (suc i) (suc j) d (omega (arith, lt)) (omega (arith, low))

first_apart : (x : ℕ) (xs : List ℕ) → AllPairs (λ a b. a ≢ b) (x ∷ xs) → Contains xs x → ⊥
first_apart x xs apart (k, low, at) = apart 0 (suc k) x (omega arith) (omega (arith, low)) (sym at)

-- numbers that differ and are among others weigh no more than these
pub sum_into : (w : ℕ → ℕ) (xs ys : List ℕ) → AllPairs (λ a b. a ≢ b) xs →
    ((x : ℕ) → Contains xs x → Contains ys x) → sum_by w xs ≤ sum_by w ys
sum_into w [] ys apart held = omega arith
sum_into w (x ∷ xs) ys apart held = by (taken_out ys x (held x (Contains-cons_first x xs)))
    (λ rest is. sum_into w xs rest (rest_apart x xs apart) (still rest is))
  where
    still : (rest : List ℕ) → IsWithout ys x rest → (y : ℕ) → Contains xs y → Contains rest y
    still rest is y c = elim (is.others y (held y (Contains-cons_rest x xs y c))) [
      | inl e ↦ absurd (first_apart x xs apart (subst (Contains xs) (sym e) c))
      | inr q ↦ q
    ]

    by : (rest : List ℕ) × IsWithout ys x rest → ((rest : List ℕ) → IsWithout ys x rest →
        sum_by w xs ≤ sum_by w rest) → sum_by w (x ∷ xs) ≤ sum_by w ys
    by (rest, is) next = (let few = next rest is in let whole = is.sums w in let own = sum_by-cons w x xs in
        omega (arith, few, whole, own))

-- the weights of the numbers of a list's elements are those of the elements
sum_numbers : (v : Edge → ℕ) (w : ℕ → ℕ) (a : ℕ) (edges : List Edge) →
    ((k : ℕ) → k < length edges → w (a + k) ≡ v (get_or edges k no_edge)) →
    sum_by w (range_with_len a (length edges)) ≡ sum_by v edges
sum_numbers v w a [] same = refl
sum_numbers v w a (x ∷ xs) same =
    let here : w a ≡ v x = ap w (plain_sum a) ∙ same 0 (omega arith) in
    let rest : sum_by w (range_with_len (a + 1) (length xs)) ≡ sum_by v xs =
    sum_numbers v w (a + 1) xs (λ k low. ap w (moved a k) ∙ same (suc k) (omega (arith, low))) in
    sum_by-cons w a (range_with_len (a + 1) (length xs)) ∙ ((λ i. here i + rest i) ∙ sym (sum_by-cons v x xs))
  where
    plain_sum : (n : ℕ) → n ≡ n + 0
    plain_sum n = omega arith

    moved : (n k : ℕ) → n + 1 + k ≡ n + suc k
    moved n k = omega arith

abbrev pub ears_of : Removal → List ℕ
ears_of plan = map (λ (ear : Ear). ear.edge) plan.removed

pub leaving_within : (plan : Removal) → IsWalkable plan → (e : ℕ) → Contains (leaving_order plan) e →
    e < length plan.edges
leaving_within plan walkable e c = elim (Contains-append_cases (ears_of plan) plan.core e c) [
  | inl removed ↦ of_ear (Contains-from_map (λ (ear : Ear). ear.edge) plan.removed e removed)
  | inr stays ↦ All-contains (λ x. x < length plan.edges) plan.core e walkable.core_is_edges stays
]
  where
    of_ear : (ear : Ear) × Contains plan.removed ear × (ear.edge ≡ e) → e < length plan.edges
    of_ear (ear, among, same) = subst (λ x. x < length plan.edges) same
        (All-contains (λ (x : Ear). x.edge < length plan.edges) plan.removed ear walkable.ears_are_edges
        among)

pub leaving_sum : (task : Task) (schema : Schema) (s : State) (plan : Removal) → IsWalkable plan →
    plan.edges ≡ sets_of (edges_of schema) →
    sum_by (λ e. edge_rows task schema s (edge_at (edges_of schema) e)) (ears_of plan) + sum_by
    (λ e. edge_rows task schema s (edge_at (edges_of schema) e)) plan.core ≤ relation_rows task s schema
unfolding relation_rows
leaving_sum task schema s plan walkable edges =
    let long : length plan.edges ≡ length (edges_of schema) =
    ap length edges ∙ length-map (edges_of schema) (λ (e : Edge). e.classes) in
    let parts = sum_by-append (λ e. edge_rows task schema s (edge_at (edges_of schema) e)) (ears_of plan)
    plan.core in
    let few = sum_into (λ e. edge_rows task schema s (edge_at (edges_of schema) e)) (leaving_order plan)
    (range_with_len 0 (length (edges_of schema))) walkable.leave_once
    (λ e c. range_contains (length (edges_of schema)) e
    (subst (λ n. e < n) long (leaving_within plan walkable e c))) in
    let whole = sum_numbers (edge_rows task schema s) (λ e. edge_rows task schema s
    (edge_at (edges_of schema) e)) 0 (edges_of schema)
    (λ k low. ap (λ e. edge_rows task schema s (edge_at (edges_of schema) e)) (from_zero k)) in
    omega (arith, parts, few, whole)
  where
    from_zero : (k : ℕ) → 0 + k ≡ k
    from_zero k = omega arith

-- ---- the rows of all nodes

-- relations that are no larger than their numbers weigh are together no larger than all these
sum_rows : (w : ℕ → ℕ) (numbers : List ℕ) (relations : List ClassRows) → length relations ≡ length numbers →
    ((k : ℕ) → k < length numbers → length (relation_at relations k).rows ≤ w (slice_index numbers k)) →
    total_rows relations ≤ sum_by w numbers
sum_rows w [] [] many few = omega arith
sum_rows w [] (r ∷ rs) many few = absurd (omega (arith, many))
sum_rows w (e ∷ es) [] many few = absurd (omega (arith, many))
sum_rows w (e ∷ es) (r ∷ rs) many few =
    let rest = sum_rows w es rs (omega (arith, many)) (λ k low. few (suc k) (omega (arith, low))) in
    let first = few 0 (omega arith) in
    let rows = sum_by-cons (λ (x : ClassRows). length x.rows) r rs in
    let own = sum_by-cons w e es in omega (arith, rest, first, rows, own)

-- where one edge stays, the nodes' edges by the nodes' numbers are that edge and then the ears
pub all_few : (task : Task) (schema : Schema) (s : State) (all : List ClassRows) →
    0 < length (edges_of schema) →
    length (plan_of schema).core ≤ 1 → AreNodeRelations task schema s all →
    ((k e : ℕ) (relation : ClassRows) → node_edges (plan_of schema) k ≡ e ∷ [] → k < length all →
    IsNodeRelation task schema s k relation →
    length relation.rows ≤ edge_rows task schema s (edge_at (edges_of schema) e)) →
    total_rows all ≤ relation_rows task s schema
all_few task schema s all some acyclic are few = of_one (only_one (plan_of schema).core filled acyclic)
  where
    weight : ℕ → ℕ
    weight e = edge_rows task schema s (edge_at (edges_of schema) e)

    filled : 0 < length (plan_of schema).core
    filled = (plan_walkable schema).core_is_filled (subst (λ n. 0 < n) (sym (plan_long schema)) some)

    only_one : (xs : List ℕ) → 0 < length xs → length xs ≤ 1 → (x : ℕ) × (xs ≡ x ∷ [])
    only_one [] h k = absurd (omega (arith, h))
    only_one (x ∷ []) h k = (x, refl)
    only_one (x ∷ (y ∷ ys)) h k = absurd (omega (arith, k))

    of_one : (e : ℕ) × ((plan_of schema).core ≡ e ∷ []) → total_rows all ≤ relation_rows task s schema
    of_one (e, only) =
        let rows = sum_rows weight (e ∷ ears_of (plan_of schema)) all
        (are.many ∙ sym (ap suc (length-map (plan_of schema).removed (λ (ear : Ear). ear.edge)))) each in
        let own = sum_by-cons weight e (ears_of (plan_of schema)) in
        let core : sum_by weight (plan_of schema).core ≡ weight e + 0 =
        ap (sum_by weight) only ∙ sum_by-cons weight e [] in
        let whole = leaving_sum task schema s (plan_of schema) (plan_walkable schema) (edges_here schema) in
        omega (arith, rows, own, core, whole)
      where
        each : (k : ℕ) → k < length (e ∷ ears_of (plan_of schema)) →
            length (relation_at all k).rows ≤ weight (slice_index (e ∷ ears_of (plan_of schema)) k)
        each zero low = few 0 e (relation_at all 0) only (let many = are.many in omega (arith, many))
            (are.each 0 (let many = are.many in omega (arith, many)))
        each (suc i) low =
            let count = length-map (plan_of schema).removed (λ (ear : Ear). ear.edge) in
            let many = are.many in
            let here : slice_index (ears_of (plan_of schema)) i ≡ (ear_at (plan_of schema) i no_ear).edge =
            list_map (λ (ear : Ear). ear.edge) (plan_of schema).removed i no_ear 0
            (omega (arith, count, low)) in
            subst (λ x. length (relation_at all (suc i)).rows ≤ weight x) (sym here)
            (few (suc i) (ear_at (plan_of schema) i no_ear).edge (relation_at all (suc i)) refl
            (omega (arith, count, many, low)) (are.each (suc i) (omega (arith, count, many, low))))

-- ---- the probes

probes_split : (l a b : ℕ) → (a + b) + l * (2 * (a + b)) ≡ (a + l * (2 * a)) + (b + l * (2 * b))
probes_split l a b = grind arith

probes_more : (l a b : ℕ) → a ≤ b → l * (2 * a) ≤ l * (2 * b)
probes_more l a b h = grind arith

ears_appended : (xs : List Ear) (ear : Ear) → map (λ (x : Ear). x.edge) (xs ++ ear ∷ []) ≡ map
    (λ (x : Ear). x.edge) xs ++ ear.edge ∷ []
ears_appended [] ear = refl
ears_appended (x ∷ xs) ear = ap (λ es. x.edge ∷ es) (ears_appended xs ear)

-- an ear more
pub ear_added : (w : ℕ → ℕ) (form : NormalSchema) (ears : List Ear) (i : ℕ) (d : Ear)
    (start before after : ℕ) → i < length ears →
    before ≤ start + sieved_probes form (sum_by w (map (λ (x : Ear). x.edge) (take i ears))) →
    after ≤ before + sieved_probes form (w (get_or ears i d).edge) →
    after ≤ start + sieved_probes form (sum_by w (map (λ (x : Ear). x.edge) (take (i + 1) ears)))
ear_added w form ears i d start before after low old cost =
    let more : map (λ (x : Ear). x.edge) (take (i + 1) ears) ≡ map (λ (x : Ear). x.edge) (take i ears) ++
    (get_or ears i d).edge ∷ [] =
    ap (map (λ (x : Ear). x.edge)) (take_more ears i d low) ∙ ears_appended (take i ears) (get_or ears i d) in
    let here = ap (sieved_probes form) (ap (sum_by w) more ∙ sum_by_push w
    (map (λ (x : Ear). x.edge) (take i ears)) (get_or ears i d).edge) in
    let split = probes_split (length form.local) (sum_by w (map (λ (x : Ear). x.edge) (take i ears)))
    (w (get_or ears i d).edge) in
    omega (arith, here, split, old, cost)

-- all nodes
pub nodes_taken : (task : Task) (schema : Schema) (s : State) (form : NormalSchema) (plan : Removal)
    (ears : List Ear) (i start middle final : ℕ) →
    plan ≡ plan_of schema → ears ≡ plan.removed → length ears ≤ i →
    middle ≤ start + sieved_probes form (sum_by (λ e. edge_rows task schema s (edge_at (edges_of schema) e))
    plan.core) →
    final ≤ middle + sieved_probes form (sum_by (λ e. edge_rows task schema s (edge_at (edges_of schema) e))
    (map (λ (x : Ear). x.edge) (take i ears))) →
    final ≤ start + sieved_probes form (relation_rows task s schema)
nodes_taken task schema s form plan ears i start middle final is removed end first cost =
    let all : map (λ (x : Ear). x.edge) (take i ears) ≡ ears_of plan =
    ap (map (λ (x : Ear). x.edge)) (take_all i ears end ∙ removed) in
    let here = ap (λ es. sieved_probes form (sum_by weight es)) all in
    let whole = leaving_sum task schema s plan (subst IsWalkable (sym is) (plan_walkable schema))
    (ap (λ (p : Removal). p.edges) is ∙ edges_here schema) in
    let split = probes_split (length form.local) (sum_by weight plan.core) (sum_by weight (ears_of plan)) in
    let more = probes_more (length form.local) (sum_by weight plan.core + sum_by weight (ears_of plan))
    (relation_rows task s schema) (omega (arith, whole)) in
    omega (arith, here, whole, split, more, first, cost)
  where
    weight : ℕ → ℕ
    weight e = edge_rows task schema s (edge_at (edges_of schema) e)

-- one edge alone
pub lone_taken : (w : ℕ → ℕ) (form : NormalSchema) (core : List ℕ) (e start after : ℕ) → core ≡ e ∷ [] →
    after ≤ start + sieved_probes form (w e) → after ≤ start + sieved_probes form (sum_by w core)
lone_taken w form core e start after only cost =
    let here : sum_by w core ≡ w e + 0 = ap (sum_by w) only ∙ sum_by-cons w e [] in
    let same = ap (sieved_probes form) here in
    let plain : sieved_probes form (w e + 0) ≡ sieved_probes form (w e) =
    ap (sieved_probes form) (no_more (w e)) in
    omega (arith, same, plain, cost)
  where
    no_more : (n : ℕ) → n + 0 ≡ n
    no_more n = omega arith

pub as_product : (form : NormalSchema) (l start after most : ℕ) → length form.local ≡ l →
    after ≤ start + sieved_probes form most → after ≤ start + (1 + 2 * l) * most
as_product form l start after most same cost =
    let here : sieved_probes form most ≡ most + l * (2 * most) = ap (λ n. most + n * (2 * most)) same in
    let parts = product l most in omega (arith, here, parts, cost)
  where
    product : (l r : ℕ) → (1 + 2 * l) * r ≡ r + l * (2 * r)
    product l r = grind arith
