-- The nodes of a schema's join: the relation of a node from those of its edges, and the join of all nodes.
use Rattle.std.proofs.Common.{◌≡◌, ◌≢◌, ℕ, ◌<◌, ◌≤◌, ◌==◌, ◌&&◌, ◌↔◌, inl, inr, zero, suc, Bool, true, false}
use Rattle.std.proofs.Common.{not, ◌||◌, IsTrue, List, [], ◌∷◌, length, map, drop, append-nil, refl, sym, ◌∙◌}
use Rattle.std.proofs.Common.{ap, subst, arith, All, Contains, Result, Ok, Err, IfOk, eq-eqb}
use Rattle.std.specs.Prelude.{slice_index, slice_index_or}
use Rattle.std.specs.Int.{bit_at}
use Rattle.std.specs.List.{AllPairs, list_all, flat_map}
use Rattle.std.proofs.lemmas.Bool.{false≢true}
use Rattle.std.proofs.lemmas.List.{length-map, get_or_default, get_or-map as list_map}
use Rattle.std.proofs.lemmas.List.Elements.{All-contains, Contains-get_or, Contains-append_cases}
use Rattle.pl_task.specs.declared.data.Schema.{Schema}
use Rattle.pl_task.specs.declared.task.Task.{Task}
use Rattle.pl_task.specs.States.{State}
use Rattle.pl_hyper.specs.declared.ear.Ear.{Ear}
use Rattle.pl_hyper.specs.Edges.{Holds as HoldsClass}
use Rattle.pl_hyper.specs.Ears.{Removal, IsWalkable, ear_at}
use Rattle.pl_hyper.specs.ClassOrder.{classes_of, first_appearances}
use Rattle.pl_hyper.proofs.Orders.{first_appearances-rising, classes_rise}
use Rattle.pl_hyper.proofs.Removals.{IsWalkable-removal}
use Rattle.pl_hyper.proofs.Rising.{classes_of-rising}
use Rattle.pl_join.specs.declared.slot.Slot.TheVariants.{Class}
use Rattle.pl_join.specs.Relation.{Assignment, ClassRows, Holds, HoldsAll, IsJoinOfAll, IsRelation}
use Rattle.pl_join.specs.Relation.{IsSlotBelow}
use Rattle.pl_kernel.specs.ClassesByAppearance.{classes_by_appearance}
use Rattle.pl_reduce.specs.Plan.{relation_at, core_order}
use Rattle.pl_normal.specs.declared.form.Edge.{Edge}
use Rattle.pl_normal.specs.declared.form.Placed.{Placed}
use Rattle.pl_normal.specs.Edges.{edges_of, sets_of}
use Rattle.pl_normal.specs.Filters.{local_of}
use Rattle.pl_normal.specs.Query.{meets_edge, meets_sieve}
use Rattle.pl_normal.specs.Queries.{IsEdgeOf, IsRelationAt, AreRelationsAt, edge_at, lets_pass, meets_at}
use Rattle.pl_normal.specs.Queries.{is_join_answer}
use Rattle.pl_normal.specs.Recipes.{plan_of, node_edges, IsNodeRelation, AreNodesAt}
use Rattle.pl_normal.proofs.Edging.{true_is, is_true, and_split}
use Rattle.pl_normal.proofs.Forms.{SchemaOf, edge_of, local_from, home_is, no_edge}
use Rattle.pl_normal.proofs.Lists.{passes_all, all_pass}
use Rattle.pl_normal.proofs.Removing.{ear_removal-edges, ear_removal-is}

-- ---- meeting all edges, one by one

abbrev MeetsEach : Task → Schema → State → Assignment → Type 0
MeetsEach task schema s f = (e : ℕ) → e < length (edges_of schema) → IsTrue (meets_at task schema s f e)

lets_by : (s : State) (f : Assignment) (e : ℕ) (placed : Placed) (b : Bool) → (placed.edge == e) ≡ b →
    IsTrue (meets_sieve s f placed.sieve) → IsTrue (not b || meets_sieve s f placed.sieve)
lets_by s f e placed true at h = h
lets_by s f e placed false at h = refl

answer_each : (task : Task) (schema : Schema) (s : State) (f : Assignment) →
    IsTrue (is_join_answer task schema s f) → MeetsEach task schema s f
unfolding meets_at is_join_answer
answer_each task schema s f h e low =
    let both = (and_split (list_all (meets_edge task schema s f) (edges_of schema))
    (list_all (λ (placed : Placed). meets_sieve s f placed.sieve) (local_of schema))).0 h in
    (and_split (meets_edge task schema s f (edge_at (edges_of schema) e))
    (list_all (lets_pass s f e) (local_of schema))).1 (
      is_true _ (passes_all (meets_edge task schema s f) (edges_of schema) (edge_at (edges_of schema) e)
          (true_is _ both.0) (Contains-get_or (edges_of schema) e no_edge low)),
      is_true _ (all_pass (lets_pass s f e) (local_of schema)
          (λ placed c. true_is _ (lets_by s f e placed (placed.edge == e) refl
          (is_true _ (passes_all (λ (p : Placed). meets_sieve s f p.sieve) (local_of schema) placed
          (true_is _ both.1) c))))),
    )

lets_from : (b : Bool) (x : Bool) → b ≡ true → IsTrue (not b || x) → IsTrue x
lets_from true x at h = h
lets_from false x at h = absurd (false≢true at)

each_answer : (task : Task) (schema : Schema) (s : State) (f : Assignment) → MeetsEach task schema s f →
    IsTrue (is_join_answer task schema s f)
unfolding meets_at is_join_answer
each_answer task schema s f each =
    (and_split (list_all (meets_edge task schema s f) (edges_of schema))
    (list_all (λ (placed : Placed). meets_sieve s f placed.sieve) (local_of schema))).1 (
      is_true _ (all_pass (meets_edge task schema s f) (edges_of schema) (λ e c. edge e c)),
      is_true _ (all_pass (λ (placed : Placed). meets_sieve s f placed.sieve) (local_of schema)
          (λ placed c. local placed c)),
    )
  where
    parts : (e : ℕ) → e < length (edges_of schema) → IsTrue
        (meets_edge task schema s f (edge_at (edges_of schema) e)) × IsTrue
        (list_all (lets_pass s f e) (local_of schema))
    parts e low = (and_split (meets_edge task schema s f (edge_at (edges_of schema) e))
        (list_all (lets_pass s f e) (local_of schema))).0 (each e low)

    edge : (e : Edge) → Contains (edges_of schema) e → meets_edge task schema s f e ≡ true
    edge e (k, low, at) = ap (meets_edge task schema s f)
        (sym at ∙ get_or_default (edges_of schema) k e no_edge low) ∙ true_is _ (parts k low).0

    local : (placed : Placed) → Contains (local_of schema) placed → meets_sieve s f placed.sieve ≡ true
    local placed c =
        let home = home_is (edges_of schema) placed.sieve placed.edge (local_from schema placed c).1 in
        true_is _ (lets_from (placed.edge == placed.edge) (meets_sieve s f placed.sieve)
        (eq-eqb placed.edge placed.edge refl)
        (is_true _ (passes_all (lets_pass s f placed.edge) (local_of schema) placed
        (true_is _ (parts placed.edge home.0).1) c)))

-- ---- some relations hold an assignment just where their edges are met

abbrev Meets : Task → Schema → State → Assignment → List ℕ → Type 0
Meets task schema s f numbers = (e : ℕ) → Contains numbers e → IsTrue (meets_at task schema s f e)

held_met : (task : Task) (schema : Schema) (s : State) (f : Assignment) (numbers : List ℕ)
    (relations : List ClassRows) → AreRelationsAt task schema s numbers relations → HoldsAll relations f →
    Meets task schema s f numbers
held_met task schema s f numbers relations are held e (k, low, at) =
    let is = are.each k low in
    let many = are.many in
    subst (λ x. IsTrue (meets_at task schema s f x)) (get_or_default numbers k 0 e low ∙ at)
    ((is.rows f).0 (held k _ (omega (arith, many, low))))

met_held : (task : Task) (schema : Schema) (s : State) (f : Assignment) (numbers : List ℕ)
    (relations : List ClassRows) → AreRelationsAt task schema s numbers relations →
    Meets task schema s f numbers → HoldsAll relations f
met_held task schema s f numbers relations are met k d low =
    let many = are.many in
    let low' : k < length numbers = omega (arith, many, low) in
    let is = are.each k low' in
    subst (λ (r : ClassRows). Holds r f) (get_or_default relations k _ d low)
    ((is.rows f).1 (met (slice_index numbers k) (Contains-get_or numbers k 0 low')))

-- ---- the plan

pub plan_walkable : (schema : Schema) → IsWalkable (plan_of schema)
plan_walkable schema = IsWalkable-removal (plan_of schema) (ear_removal-is (sets_of (edges_of schema)))

-- ---- the classes of the relations

set_here : (edges : List Edge) (e : ℕ) → e < length edges →
    slice_index (sets_of edges) e ≡ (edge_at edges e).classes
set_here edges e low = list_map (λ (x : Edge). x.classes) edges e no_edge 0 low

pub over_edge : (task : Task) (schema : Schema) (s : State) (edges : List ℕ) (e c : ℕ)
    (relation : ClassRows) → SchemaOf task schema → edges ≡ sets_of (edges_of schema) →
    e < length (edges_of schema) → IsRelationAt task schema s e relation →
    Contains relation.classes c ↔ ((c < 64) × HoldsClass edges e c)
over_edge task schema s edges e c relation is same low at = (
  λ h. (small ((at.classes c).0 h), bit ((at.classes c).0 h)),
  λ h. (at.classes c).1 (subst (λ x. bit_at x c ≡ 1) here h.1),
)
  where
    here : slice_index edges e ≡ (edge_at (edges_of schema) e).classes
    here = ap (λ xs. slice_index xs e) same ∙ set_here (edges_of schema) e low

    edge_is : IsEdgeOf task schema (edge_at (edges_of schema) e)
    edge_is = edge_of task schema (edge_at (edges_of schema) e) is
        (Contains-get_or (edges_of schema) e no_edge low)

    small : bit_at (edge_at (edges_of schema) e).classes c ≡ 1 → c < 64
    small h = All-contains (IsSlotBelow 64) (edge_at (edges_of schema) e).slots (Class c) edge_is.below
        ((edge_is.set c).0 h) c refl

    bit : bit_at (edge_at (edges_of schema) e).classes c ≡ 1 → HoldsClass edges e c
    bit h = subst (λ x. bit_at x c ≡ 1) (sym here) h

-- ---- the relation of a node

abbrev pub no_ear : Ear
no_ear = record { edge = 0; parent = 0 }

-- a node of one edge
pub one_met : (b : Bool) → IsTrue b ↔ IsTrue (b && true)
one_met true = (λ h. h, λ h. h)
one_met false = (λ h. h, λ h. h)

pub edges_here : (schema : Schema) → (plan_of schema).edges ≡ sets_of (edges_of schema)
edges_here schema = ear_removal-edges (sets_of (edges_of schema))

pub held_set : (schema : Schema) (e c : ℕ) → e < length (edges_of schema) →
    (bit_at (edge_at (edges_of schema) e).classes c ≡ 1) ↔ HoldsClass (plan_of schema).edges e c
held_set schema e c low =
    let here : slice_index (plan_of schema).edges e ≡ (edge_at (edges_of schema) e).classes =
    ap (λ xs. slice_index xs e) (edges_here schema) ∙ set_here (edges_of schema) e low in
    (λ h. subst (λ x. bit_at x c ≡ 1) (sym here) h, λ h. subst (λ x. bit_at x c ≡ 1) here h)

pub plan_long : (schema : Schema) → length (plan_of schema).edges ≡ length (edges_of schema)
plan_long schema = ap length (edges_here schema) ∙ length-map (edges_of schema) (λ (e : Edge). e.classes)

pub ear_within : (schema : Schema) (i : ℕ) (d : Ear) → i < length (plan_of schema).removed →
    (ear_at (plan_of schema) i d).edge < length (edges_of schema)
ear_within schema i d low =
    subst (λ n. (ear_at (plan_of schema) i d).edge < n) (plan_long schema)
    ((plan_walkable schema).ears_are_edges i d low)

pub ear_node : (task : Task) (schema : Schema) (s : State) (i : ℕ) (relation : ClassRows) →
    i < length (plan_of schema).removed → IsRelationAt task schema s (ear_at (plan_of schema) i no_ear).edge
    relation →
    IsNodeRelation task schema s (suc i) relation
ear_node task schema s i relation low is = record {
  whole = is.whole;
  classes = λ c. (
    λ h. (held_set schema (ear_at (plan_of schema) i no_ear).edge c (ear_within schema i no_ear low)).0
        ((is.classes c).0 h),
    λ h. (is.classes c).1 ((held_set schema (ear_at (plan_of schema) i no_ear).edge c
        (ear_within schema i no_ear low)).1 h),
  );
  rows = λ f. (
    λ h. (one_met (meets_at task schema s f (ear_at (plan_of schema) i no_ear).edge)).0 ((is.rows f).0 h),
    λ h. (is.rows f).1 ((one_met (meets_at task schema s f (ear_at (plan_of schema) i no_ear).edge)).1 h),
  );
}

pub one_order : (plan : Removal) (e : ℕ) → plan.core ≡ e ∷ [] →
    core_order plan ≡ classes_of (slice_index plan.edges e)
one_order plan e only =
    ap (λ core. first_appearances (flat_map (λ x. classes_of (slice_index plan.edges x)) core)) only
    ∙ (ap first_appearances (append-nil (classes_of (slice_index plan.edges e)))
    ∙ first_appearances-rising (classes_of (slice_index plan.edges e))
    (classes_rise (slice_index plan.edges e)))

-- what two facts about a value give together
pub if_both : {X E : Type 0} (r : Result X E) (P Q R : X → Type 0) → ((x : X) → P x → Q x → R x) → IfOk r P →
    IfOk r Q → IfOk r R
if_both (Ok x) P Q R both p q = both x p q
if_both (Err e) P Q R both p q = tt

-- the root, where one edge stays
pub lone_root : (task : Task) (schema : Schema) (s : State) (e : ℕ) (relation : ClassRows) →
    SchemaOf task schema →
    (plan_of schema).core ≡ e ∷ [] → e < length (edges_of schema) → IsRelationAt task schema s e relation →
    AllPairs (λ a b. a < b) relation.classes → IsNodeRelation task schema s 0 relation
lone_root task schema s e relation of only low is rising = record {
  whole = is.whole;
  classes =
      classes_of-rising (slice_index (plan_of schema).edges e) relation.classes rising
      (λ c. over_edge task schema s (plan_of schema).edges e c relation of (edges_here schema) low is)
      ∙ sym (one_order (plan_of schema) e only);
  rows = λ f. subst (λ xs. Holds relation f ↔ IsTrue (list_all (meets_at task schema s f) xs)) (sym only) (
    λ h. (one_met (meets_at task schema s f e)).0 ((is.rows f).0 h),
    λ h. (is.rows f).1 ((one_met (meets_at task schema s f e)).1 h),
  );
}

-- the root, where some edges stay
pub joined_root : (task : Task) (schema : Schema) (s : State) (relations : List ClassRows)
    (root : ClassRows) →
    SchemaOf task schema → AreRelationsAt task schema s (plan_of schema).core relations → IsRelation root →
    root.classes ≡ classes_by_appearance relations → IsJoinOfAll relations root →
    (((i c : ℕ) (d : ClassRows) → i < length (plan_of schema).core →
    Contains (slice_index_or relations i d).classes c
    ↔ ((c < 64) × HoldsClass (plan_of schema).edges (slice_index (plan_of schema).core i) c)) →
    classes_by_appearance relations ≡ core_order (plan_of schema)) → IsNodeRelation task schema s 0 root
joined_root task schema s relations root of are whole classes join law = record {
  whole = whole;
  classes = classes ∙ law over_core;
  rows = λ f. (
    λ h. is_true _ (all_pass (meets_at task schema s f) (plan_of schema).core (λ e c. true_is _
        (held_met task schema s f (plan_of schema).core relations are ((join f).0 h) e c))),
    λ h. (join f).1 (met_held task schema s f (plan_of schema).core relations are (λ e c. is_true _
        (passes_all (meets_at task schema s f) (plan_of schema).core e (true_is _ h) c))),
  );
}
  where
    over_core : (i c : ℕ) (d : ClassRows) → i < length (plan_of schema).core →
        Contains (slice_index_or relations i d).classes c
        ↔ ((c < 64) × HoldsClass (plan_of schema).edges (slice_index (plan_of schema).core i) c)
    over_core i c d low =
        let many = are.many in
        subst (λ (r : ClassRows). Contains r.classes c ↔
        ((c < 64) × HoldsClass (plan_of schema).edges (slice_index (plan_of schema).core i) c))
        (get_or_default relations i _ d (omega (arith, many, low)))
        (over_edge task schema s (plan_of schema).edges (slice_index (plan_of schema).core i) c
        (relation_at relations i) of (edges_here schema)
        (subst (λ n. slice_index (plan_of schema).core i < n) (plan_long schema)
        ((plan_walkable schema).core_is_edges i 0 low)) (are.each i low))

-- ---- all nodes

-- the relations of all nodes, by their numbers
pub record AreNodeRelations (task : Task) (schema : Schema) (s : State) (all : List ClassRows) : Type 0 where
  pub many : length all ≡ suc (length (plan_of schema).removed)
  pub each : (k : ℕ) → k < length all → IsNodeRelation task schema s k (relation_at all k)

behind_first : (all : List ClassRows) (i : ℕ) → 0 < length all →
    relation_at (drop 1 all) i ≡ relation_at all (suc i)
behind_first [] i some = absurd (omega (arith, some))
behind_first (x ∷ xs) i some = refl

dropped_one : (all : List ClassRows) (n : ℕ) → length all ≡ suc n → length (drop 1 all) ≡ n
dropped_one [] n h = absurd (omega (arith, h))
dropped_one (x ∷ xs) n h = omega (arith, h)

pub nodes_at : (task : Task) (schema : Schema) (s : State) (all : List ClassRows) →
    0 < length (edges_of schema) →
    AreNodeRelations task schema s all → AreNodesAt task schema s all
nodes_at task schema s all some are = record {
  over = record {
    core = walkable.core_is_filled (subst (λ n. 0 < n) (sym (plan_long schema)) some);
    root_order = (are.each 0 filled).classes;
    many = dropped_one all (length (plan_of schema).removed) are.many;
    ears = ear;
  };
  join = λ f. (down f, up f);
}
  where
    walkable : IsWalkable (plan_of schema)
    walkable = plan_walkable schema

    filled : 0 < length all
    filled = let many = are.many in omega (arith, many)

    ear : (i c : ℕ) (d : Ear) → i < length (drop 1 all) → Contains (relation_at (drop 1 all) i).classes c ↔
        HoldsClass (plan_of schema).edges (ear_at (plan_of schema) i d).edge c
    ear i c d low =
        let rest = dropped_one all (length (plan_of schema).removed) are.many in
        let many = are.many in
        let is = (are.each (suc i) (omega (arith, rest, many, low))).classes in
        let same : ear_at (plan_of schema) i no_ear ≡ ear_at (plan_of schema) i d =
        get_or_default (plan_of schema).removed i no_ear d (omega (arith, rest, low)) in
        let moved : relation_at (drop 1 all) i ≡ relation_at all (suc i) = behind_first all i filled in
        subst (λ (r : ClassRows). Contains r.classes c ↔
        HoldsClass (plan_of schema).edges (ear_at (plan_of schema) i d).edge c) (sym moved)
        (subst (λ (x : Ear). Contains (relation_at all (suc i)).classes c ↔
        HoldsClass (plan_of schema).edges x.edge c) same (is c))

    met : (f : Assignment) (k e : ℕ) → HoldsAll all f → k < length all →
        Contains (node_edges (plan_of schema) k) e → IsTrue (meets_at task schema s f e)
    met f k e held low among =
        is_true _ (passes_all (meets_at task schema s f) (node_edges (plan_of schema) k) e
        (true_is _ (((are.each k low).rows f).0 (held k _ low))) among)

    down : (f : Assignment) → HoldsAll all f → IsTrue (is_join_answer task schema s f)
    down f held = each_answer task schema s f each
      where
        of_ear : (e : ℕ) → Contains (map (λ (x : Ear). x.edge) (plan_of schema).removed) e →
            IsTrue (meets_at task schema s f e)
        of_ear e (k, low, at) =
            let count = length-map (plan_of schema).removed (λ (x : Ear). x.edge) in
            let many = are.many in
            let here : (ear_at (plan_of schema) k no_ear).edge ≡ e =
            sym (list_map (λ (x : Ear). x.edge) (plan_of schema).removed k no_ear e
            (omega (arith, count, low))) ∙ at in
            met f (suc k) e held (omega (arith, count, many, low))
            (subst (Contains ((ear_at (plan_of schema) k no_ear).edge ∷ [])) here (0, omega arith, refl))

        each : (e : ℕ) → e < length (edges_of schema) → IsTrue (meets_at task schema s f e)
        each e low = elim (Contains-append_cases (map (λ (x : Ear). x.edge) (plan_of schema).removed)
            (plan_of schema).core e
            (walkable.all_leave e (subst (λ n. e < n) (sym (plan_long schema)) low))) [
              | inl removed ↦ of_ear e removed
              | inr stays ↦ met f 0 e held filled stays
            ]

    up : (f : Assignment) → IsTrue (is_join_answer task schema s f) → HoldsAll all f
    up f h k d low =
        subst (λ (r : ClassRows). Holds r f) (get_or_default all k _ d low)
        (((are.each k low).rows f).1 (is_true _ (all_pass (meets_at task schema s f)
        (node_edges (plan_of schema) k)
        (λ e c. true_is _ (answer_each task schema s f h e (within k e low c))))))
      where
        within : (k e : ℕ) → k < length all → Contains (node_edges (plan_of schema) k) e →
            e < length (edges_of schema)
        within zero e low c =
            subst (λ n. e < n) (plan_long schema)
            (All-contains (λ x. x < length (plan_of schema).edges) (plan_of schema).core e
            walkable.core_is_edges c)
        within (suc i) e low (zero, first, at) =
            let many = are.many in
            subst (λ x. x < length (edges_of schema)) at
            (ear_within schema i no_ear (omega (arith, many, low)))
        within (suc i) e low (suc j, far, at) = absurd (omega (arith, far))

-- ---- the plan's edges are edges

pub core_numbers : (schema : Schema) (edges : List Edge) (plan : Removal) (numbers : List ℕ) →
    edges ≡ edges_of schema → plan ≡ plan_of schema →
    numbers ≡ plan.core → All (λ e. e < length edges) numbers
core_numbers schema edges plan numbers same is core =
    subst (λ xs. All (λ e. e < length edges) xs) (sym (core ∙ ap (λ (p : Removal). p.core) is))
    (subst (λ n. All (λ e. e < n) (plan_of schema).core) (plan_long schema ∙ ap length (sym same))
    (plan_walkable schema).core_is_edges)

pub ear_numbers : (schema : Schema) (edges : List Edge) (plan : Removal) (ears : List Ear) →
    edges ≡ edges_of schema → plan ≡ plan_of schema →
    ears ≡ plan.removed → All (λ (ear : Ear). ear.edge < length edges) ears
ear_numbers schema edges plan ears same is removed =
    subst (λ xs. All (λ (ear : Ear). ear.edge < length edges) xs)
    (sym (removed ∙ ap (λ (p : Removal). p.removed) is))
    (subst (λ n. All (λ (ear : Ear). ear.edge < n) (plan_of schema).removed)
    (plan_long schema ∙ ap length (sym same)) (plan_walkable schema).ears_are_edges)

pub core_some : (schema : Schema) (edges : List Edge) (plan : Removal) (numbers : List ℕ) →
    edges ≡ edges_of schema → plan ≡ plan_of schema →
    numbers ≡ plan.core → 0 < length edges → 0 < length numbers
core_some schema edges plan numbers same is core some =
    let long = plan_long schema in
    let count = ap length same in
    let filled = (plan_walkable schema).core_is_filled (omega (arith, long, count, some)) in
    let own = ap length (core ∙ ap (λ (p : Removal). p.core) is) in omega (arith, filled, own)

pub lone_core : (xs : List ℕ) → length xs ≡ 1 → xs ≡ slice_index xs 0 ∷ []
lone_core [] h = absurd (omega (arith, h))
lone_core (x ∷ []) h = refl
lone_core (x ∷ (y ∷ ys)) h = absurd (omega (arith, h))

pub not_alone : (n : ℕ) → 0 < n → n ≢ 1 → n ≤ 1 → ⊥
not_alone zero some apart few = absurd (omega (arith, some))
not_alone (suc zero) some apart few = apart refl
not_alone (suc (suc n)) some apart few = absurd (omega (arith, few))
