-- What the begun, reduced and stored relations are together: the reduction of the relations that were given.
use Rattle.std.proofs.Common.{◌≡◌, ◌↔◌, ◌^◌, ◌<◌, ◌≤◌, ℕ, zero, suc, Bool, true, IsTrue, List, [], ◌∷◌, ◌++◌}
use Rattle.std.proofs.Common.{length, map, filter, take, drop, get_or, Contains, All, refl, sym, ap, ◌∙◌}
use Rattle.std.proofs.Common.{subst, inl, inr, arith}
use Rattle.std.specs.List.{list_any}
use Rattle.std.specs.Int.{bit_at}
use Rattle.std.proofs.lemmas.Bool.Decides.{Decides-eqb, same_from_decides}
use Rattle.std.proofs.lemmas.List.{length-map, map-append, take-append-drop, take_at, get_or_default}
use Rattle.std.proofs.lemmas.List.Elements.{All-contains, All-get_or, Contains-get_or, Contains-append_right}
use Rattle.std.proofs.lemmas.List.Elements.{filter_agree}
use Rattle.std.proofs.lemmas.List.Folds.{list_any_at}
use Rattle.std.proofs.lemmas.List.Sums.{sum_by-cons}
use Rattle.std.proofs.lemmas.Slice.Eq.{bytes_eq-Decides}
use Rattle.pl_rows.specs.Rows.{begins_with}
use Rattle.pl_rows.proofs.Canonical.{Contains-nil, Contains-cons_first}
use Rattle.pl_join.specs.Relation.{ClassRows, Assignment, AreDistinct, IsRelation, Holds, HoldsAll, Agree}
use Rattle.pl_join.specs.Relation.{has_class}
use Rattle.pl_join.proofs.Assignments.{value_of, map_agree, row_held}
use Rattle.pl_join.proofs.Members.{has_class-Contains, Contains-from_flat_map}
use Rattle.pl_hyper.specs.declared.ear.Ear.{Ear}
use Rattle.pl_hyper.specs.Ears.{Removal, IsRemoval, IsWalkable, ear_at}
use Rattle.pl_hyper.specs.ClassOrder.{class_order, IsClass}
use Rattle.pl_reduce.specs.declared.reduced.Stored.{Stored}
use Rattle.pl_reduce.specs.Nodes.{Node, node_at, relations_of, key_classes, new_classes}
use Rattle.pl_reduce.specs.Walk.{walk_of, classes_along, GoesOn}
use Rattle.pl_reduce.specs.Plan.{AreOverPlan, AreColumns, relation_at, edge_holds, edge_order}
use Rattle.pl_reduce.specs.PlanNodes.{AreParentNodes}
use Rattle.pl_reduce.specs.Passes.{rows_at, total_rows, Remains, AreParents, IsPassedDown}
use Rattle.pl_reduce.specs.Arranged.{ordered, node_for}
use Rattle.pl_reduce.specs.Reduced.{IsReduced, IsReductionOf, IsProjectionOfJoin, JoinHolds}
use Rattle.pl_reduce.specs.Kept.{node_of, AreStored}
use Rattle.pl_reduce.proofs.Lists.{all_members}
use Rattle.pl_reduce.proofs.Walks.{held_by_each, each_holds}
use Rattle.pl_reduce.proofs.Arrangements.{ordered_held, ordered_has}
use Rattle.pl_reduce.proofs.PlanNodes.{over_nodes, are_parents}
use Rattle.pl_reduce.proofs.Columns.{AreLaid, columns}
use Rattle.pl_reduce.proofs.Numbers.{all_numbered, numbered, IsPlaced, placed}

-- ---- the relations that were given, and those with which the passes begin

-- the relations with which the passes begin have the given ones' join, and their columns stand in order
pub record AreBegun (order : List ℕ) (given begun : List ClassRows) : Type 0 where
  pub many : length begun ≡ length given
  pub root : (relation_at begun 0).classes ≡ (relation_at given 0).classes
  pub classes : (k : ℕ) → 0 < k → k < length given → (relation_at begun k).classes ≡ ordered order
      (relation_at given k).classes
  pub join : (f : Assignment) → HoldsAll begun f ↔ HoldsAll given f
  pub fewer : (k : ℕ) → k < length given → rows_at begun k ≤ rows_at given k

-- each class of an ear's relation is one of the order
pub all_held : (plan : Removal) (root : ClassRows) (rest : List ClassRows) (order : List ℕ)
    → AreOverPlan plan root rest → IsWalkable plan → ((c : ℕ) → Contains order c ↔ IsClass plan.edges c)
    → (k : ℕ) → 0 < k → k < length (root ∷ rest) → All (Contains order) (relation_at (root ∷ rest) k).classes
all_held plan root rest order over walk classes zero some l = absurd (omega arith)
all_held plan root rest order over walk classes (suc i) some l =
    all_members (Contains order) (relation_at rest i).classes (λ c h.
    (let d : Ear = record { edge = 0; parent = 0 } in
    let within : (ear_at plan i d).edge < length plan.edges =
    All-get_or (λ (ear : Ear). ear.edge < length plan.edges) plan.removed i d
    (omega (arith, over.many)) walk.ears_are_edges in
    (classes c).1 ((ear_at plan i d).edge, within, (over.ears i c d (omega arith)).0 h)))

-- a relation and its arrangement have the same classes
same_classes : (order : List ℕ) (given begun : List ClassRows) (k c : ℕ) → AreBegun order given begun
    → All (Contains order) (relation_at given k).classes → 0 < k → k < length given
    → Contains (relation_at begun k).classes c ↔ Contains (relation_at given k).classes c
same_classes order given begun k c are held some l = (
  λ h. All-contains (Contains (relation_at given k).classes) (ordered order (relation_at given k).classes) c
      (ordered_held order (relation_at given k).classes)
      (subst (λ classes. Contains classes c) (are.classes k some l) h),
  λ h. subst (λ classes. Contains classes c) (sym (are.classes k some l))
      (ordered_has order (relation_at given k).classes c held h),
)

pub begun_parents : (plan : Removal) (root : ClassRows) (rest begun : List ClassRows) (parents order : List ℕ)
    → ((e : ℕ) → get_or plan.edges e 0 < 2 ^ 64) → AreOverPlan plan root rest → IsWalkable plan
    → ((c : ℕ) → Contains order c ↔ IsClass plan.edges c) → AreBegun order (root ∷ rest) begun
    → AreParentNodes plan parents → AreParents parents begun
begun_parents plan root rest begun parents order fits over walk classes are nodes =
    are_parents plan begun parents walk
    (over_nodes plan root rest begun fits over are.many are.root
    (λ i c l. same_classes order (root ∷ rest) begun (suc i) c are
    (all_held plan root rest order over walk classes (suc i) (omega arith) (omega arith)) (omega arith)
    (omega arith)))
    nodes

-- ---- the relations and the nodes that are stored of them

-- what the relations are at the end: begun, reduced and stored
pub record AreMade (plan : Removal) (root : ClassRows) (rest begun passed : List ClassRows)
    (stored : List Stored) : Type 0 where
  pub over : AreOverPlan plan root rest
  pub are_begun : AreBegun (class_order plan) (root ∷ rest) begun
  pub are_passed : IsPassedDown begun passed 0
  pub are_stored : AreStored plan passed stored

-- the node of a number
pub stored_node : (plan : Removal) (root : ClassRows) (rest begun passed : List ClassRows)
    (stored : List Stored) (i : ℕ) → AreMade plan root rest begun passed stored
    → i < length (map node_of stored) → (i < length passed)
    × (node_at (map node_of stored) i ≡ node_for plan i (relation_at passed i))
stored_node plan root rest begun passed stored i made l =
    let within : i < length passed = omega (arith, length-map stored node_of, made.are_stored.many) in
    (within, made.are_stored.nodes i within)

many_nodes : (plan : Removal) (root : ClassRows) (rest begun passed : List ClassRows) (stored : List Stored)
    → AreMade plan root rest begun passed stored → length (map node_of stored) ≡ suc (length plan.removed)
many_nodes plan root rest begun passed stored made =
    omega (
      arith,
      length-map stored node_of,
      made.are_stored.many,
      made.are_passed.reduced.many,
      made.are_begun.many,
      made.over.many,
    )

-- an ear's relation is over the edge's classes, in class order
ear_order : (plan : Removal) (root : ClassRows) (rest : List ClassRows) (i : ℕ) (d : Ear)
    → AreOverPlan plan root rest → i < length rest → ordered (class_order plan)
    (relation_at rest i).classes ≡ edge_order plan (ear_at plan i d).edge
ear_order plan root rest i d over l = filter_agree (has_class (relation_at rest i).classes)
    (edge_holds plan (ear_at plan i d).edge) (λ c. same c) (class_order plan)
  where
    same : (c : ℕ) → has_class (relation_at rest i).classes c ≡ edge_holds plan (ear_at plan i d).edge c
    same c = same_from_decides (has_class (relation_at rest i).classes c)
        (edge_holds plan (ear_at plan i d).edge c) (has_class-Contains (relation_at rest i).classes c)
        (edge_decides c)
      where
        edge_decides : (c : ℕ) → (edge_holds plan (ear_at plan i d).edge c ≡ true)
            ↔ Contains (relation_at rest i).classes c
        edge_decides c = (
          λ h. (over.ears i c d l).1
              ((Decides-eqb (bit_at (get_or plan.edges (ear_at plan i d).edge 0) c) 1).0 h),
          λ h. (Decides-eqb (bit_at (get_or plan.edges (ear_at plan i d).edge 0) c) 1).1
              ((over.ears i c d l).0 h),
        )

pub made_columns : (plan : Removal) (root : ClassRows) (rest begun passed : List ClassRows)
    (stored : List Stored) → AreMade plan root rest begun passed stored → AreColumns plan (map node_of stored)
made_columns plan root rest begun passed stored made = record {
  many = many_nodes plan root rest begun passed stored made;
  root = ap (λ (n : Node). n.relation.classes) (first.1) ∙ made.are_passed.reduced.classes 0
      ∙ made.are_begun.root ∙ made.over.root_order;
  root_width = ap (λ (n : Node). n.width) first.1;
  ears = λ i d l. ears i d l;
  widths = λ i d l. widths i d l;
}
  where
    all : length (map node_of stored) ≡ suc (length plan.removed)
    all = many_nodes plan root rest begun passed stored made

    first : (0 < length passed) × (node_at (map node_of stored) 0 ≡ node_for plan 0 (relation_at passed 0))
    first = stored_node plan root rest begun passed stored 0 made (omega (arith, all))

    order_of : (i : ℕ) (d : Ear) → i < length plan.removed
        → (relation_at passed (suc i)).classes ≡ edge_order plan (ear_at plan i d).edge
    order_of i d l =
        made.are_passed.reduced.classes (suc i) ∙ made.are_begun.classes (suc i) (omega arith)
        (omega (arith, made.over.many))
        ∙ ear_order plan root rest i d made.over (omega (arith, made.over.many))

    ears : (i : ℕ) (d : Ear) → i < length plan.removed
        → (node_at (map node_of stored) (suc i)).relation.classes ≡ edge_order plan (ear_at plan i d).edge
    ears i d l = ap (λ (n : Node). n.relation.classes)
        (stored_node plan root rest begun passed stored (suc i) made (omega (arith, all))).1 ∙ order_of i d l

    widths : (i : ℕ) (d : Ear) → i < length plan.removed
        → (node_at (map node_of stored) (suc i)).width ≡ length
        (filter (edge_holds plan (ear_at plan i d).parent) (edge_order plan (ear_at plan i d).edge))
    widths i d l =
        ap (λ (n : Node). n.width)
        (stored_node plan root rest begun passed stored (suc i) made (omega (arith, all))).1
        ∙ ap (λ (ear : Ear). length
        (filter (edge_holds plan ear.parent) (relation_at passed (suc i)).classes))
        (get_or_default plan.removed i _ d l)
        ∙ ap (λ classes. length (filter (edge_holds plan (ear_at plan i d).parent) classes)) (order_of i d l)

-- ---- the rows

-- the values of the classes are those of a row, so it begins with those of the key
begins : (n : ℕ) (classes : List ℕ) (f g : Assignment) → Agree (take n classes) f g
    → begins_with (map f (take n classes)) (map g classes) ≡ true
begins n classes f g same =
    let parts : map g classes ≡ map g (take n classes) ++ map g (drop n classes) =
    ap (map g) (sym (take-append-drop n classes)) ∙ map-append g (take n classes) (drop n classes) in
    let long : length (map f (take n classes)) ≡ length (map g (take n classes)) =
    length-map (take n classes) f ∙ sym (length-map (take n classes) g) in
    let front : take (length (map f (take n classes))) (map g classes) ≡ map f (take n classes) =
    ap (take (length (map f (take n classes)))) parts
    ∙ take_at (map g (take n classes)) (map g (drop n classes)) (length (map f (take n classes)))
    (sym long)
    ∙ sym (map_agree (take n classes) f g same) in
    (bytes_eq-Decides (take (length (map f (take n classes))) (map g classes)) (map f (take n classes))).1
    front

shown : (b : Bool) → b ≡ true → IsTrue b
shown b e = grind arith

-- where a row is among the rows, some row passes what it passes
some_row : (rows : List (List ℕ)) (row : List ℕ) (p : List ℕ → Bool) → Contains rows row → p row ≡ true
    → IsTrue (list_any p rows)
some_row rows row p (k, l, e) passes = shown (list_any p rows)
    (list_any_at p rows k row l (subst (λ r. p r ≡ true) (sym e) passes))

-- the relation of a node is one of those passed
relation_is : (plan : Removal) (root : ClassRows) (rest begun passed : List ClassRows) (stored : List Stored)
    (i : ℕ) → AreMade plan root rest begun passed stored → i < length (map node_of stored)
    → (node_at (map node_of stored) i).relation ≡ relation_at passed i
relation_is plan root rest begun passed stored i made l = ap (λ (n : Node). n.relation)
    (stored_node plan root rest begun passed stored i made l).1

-- an assignment that the nodes of a front of the walk hold is one of those that remain
front_remains : (plan : Removal) (root : ClassRows) (rest begun passed : List ClassRows)
    (stored : List Stored) (first node : Node) (before : List Node) (number : ℕ) (f : Assignment)
    → AreMade plan root rest begun passed stored → IsPlaced (map node_of stored) first before node number
    → HoldsAll (relations_of (first ∷ before)) f → (k : ℕ) → k < length passed → Remains number k
    → Holds (relation_at passed k) f
front_remains plan root rest begun passed stored first node before number f made place held k l m =
    let within : k < length (map node_of stored) =
    omega (arith, length-map stored node_of, made.are_stored.many) in
    subst (λ r. Holds r f) (relation_is plan root rest begun passed stored k made within)
    (each_holds (first ∷ before) f (node_at (map node_of stored) k) held (place.remain k within m))

-- a class that the front met is one of a node that remains
met_remains : (nodes : List Node) (first node : Node) (before : List Node) (number c : ℕ)
    → IsPlaced nodes first before node number → Contains (classes_along (first ∷ before)) c → (k : ℕ)
    × (k < length nodes) × Remains number k × Contains (node_at nodes k).relation.classes c
met_remains nodes first node before number c place h =
    let (other, among, new) = Contains-from_flat_map new_classes (first ∷ before) c h in
    let (k, l, m, e) = place.remaining other among in
    let held : Contains other.relation.classes c = subst (λ xs. Contains xs c)
    (take-append-drop other.width other.relation.classes)
    (Contains-append_right (key_classes other) (new_classes other) c new) in
    (k, l, m, subst (λ (n : Node). Contains n.relation.classes c) (sym e) held)

made_goes_on : (plan : Removal) (root : ClassRows) (rest begun passed : List ClassRows) (stored : List Stored)
    → AreMade plan root rest begun passed stored → AreLaid plan (map node_of stored)
    → (first node : Node) (before after : List Node) (f : Assignment)
    → walk_of (map node_of stored) ≡ first ∷ before ++ node ∷ after
    → HoldsAll (relations_of (first ∷ before)) f → GoesOn f node
made_goes_on plan root rest begun passed stored made laid first node before after f e held =
    let number : ℕ = suc (length after) in
    let place = placed (map node_of stored) first before after node e in
    let many : length passed ≡ length begun = made.are_passed.reduced.many in
    let within : number < length passed =
    (stored_node plan root rest begun passed stored number made place.within).0 in
    let (g, all, alike) = made.are_passed.extend number (omega (arith, many, within)) f
    (front_remains plan root rest begun passed stored first node before number f made place held) in
    let relation : node.relation ≡ relation_at passed number = sym (ap (λ (n : Node). n.relation) place.is)
    ∙ relation_is plan root rest begun passed stored number made place.within in
    let there : Holds node.relation g = subst (λ r. Holds r g) (sym relation)
    (made.are_passed.reduced.kept g number (omega (arith, many, within)) all) in
    let keys : All (Contains (classes_along (first ∷ before))) (key_classes node) =
    laid.keys (first ∷ before) after node e in
    let same : Agree (key_classes node) f g = λ c h.
    (let (k, l, m, at) = met_remains (map node_of stored) first node before number c place
    (All-contains (Contains (classes_along (first ∷ before))) (key_classes node) c keys h) in
    alike k (stored_node plan root rest begun passed stored k made l).0 m c
    (subst (λ (r : ClassRows). Contains r.classes c)
    (relation_is plan root rest begun passed stored k made l) at)) in
    some_row node.relation.rows (map g node.relation.classes) (begins_with (map f (key_classes node))) there
    (begins node.width node.relation.classes f g same)

-- no row stands where none can be
no_rows : (rows : List (List ℕ)) → ((row : List ℕ) → Contains rows row → ⊥) → rows ≡ []
no_rows [] h = refl
no_rows (row ∷ rows) h = absurd (h row (Contains-cons_first row rows))

-- a row of a relation extends to an assignment of the join
row_extends : (plan : Removal) (root : ClassRows) (rest begun passed : List ClassRows) (stored : List Stored)
    (i : ℕ) (row : List ℕ) → AreMade plan root rest begun passed stored → i < length passed
    → Contains (relation_at passed i).rows row → (g : Assignment) × HoldsAll begun g
row_extends plan root rest begun passed stored i row made l h =
    let is : IsRelation (relation_at passed i) = made.are_stored.relations_are i l in
    let v : Assignment = value_of (relation_at passed i).classes row in
    let held : Holds (relation_at passed i) v = subst (Contains (relation_at passed i).rows)
    (sym (row_held (relation_at passed i) is row h)) h in
    let (g, all, alike) = made.are_passed.exact i (omega (arith, made.are_passed.reduced.many))
    (all_remain i) v held in
    (g, all)
  where
    all_remain : (k : ℕ) → Remains 0 k
    all_remain zero = inl refl
    all_remain (suc k) = inr (omega arith)

made_emptied : (plan : Removal) (root : ClassRows) (rest begun passed : List ClassRows) (stored : List Stored)
    → AreMade plan root rest begun passed stored → (first : Node) (others : List Node)
    → map node_of stored ≡ first ∷ others → first.relation.rows ≡ []
    → All (λ node. node.relation.rows ≡ []) (map node_of stored)
made_emptied plan root rest begun passed stored made first others e none =
    all_numbered (λ node. node.relation.rows ≡ []) (map node_of stored) (λ i l.
    (let relation = relation_is plan root rest begun passed stored i made l in
    ap (λ (r : ClassRows). r.rows) relation
    ∙ no_rows (relation_at passed i).rows (λ row h. no_row i l row h)))
  where
    some : 0 < length (map node_of stored)
    some = let s = ap length e in omega (arith, s)

    root_rows : (relation_at passed 0).rows ≡ []
    root_rows = ap (λ (r : ClassRows). r.rows)
        (sym (relation_is plan root rest begun passed stored 0 made some))
        ∙ ap (λ nodes. (node_at nodes 0).relation.rows) e ∙ none

    no_row : (i : ℕ) → i < length (map node_of stored) → (row : List ℕ)
        → Contains (relation_at passed i).rows row → ⊥
    no_row i l row h =
        let (g, all) = row_extends plan root rest begun passed stored i row made
        (stored_node plan root rest begun passed stored i made l).0 h in
        let first_within : 0 < length passed =
        (stored_node plan root rest begun passed stored 0 made some).0 in
        let held : Holds (relation_at passed 0) g = made.are_passed.reduced.kept g 0
        (omega (arith, made.are_passed.reduced.many, first_within)) all in
        Contains-nil (map g (relation_at passed 0).classes)
        (subst (λ rows. Contains rows (map g (relation_at passed 0).classes)) root_rows held)

-- ---- the whole

pub made_reduced : (plan : Removal) (root : ClassRows) (rest begun passed : List ClassRows)
    (stored : List Stored) → AreMade plan root rest begun passed stored → IsRemoval plan → IsWalkable plan
    → AreDistinct (class_order plan) → All (λ c. c < 64) (class_order plan)
    → IsReduced (record { classes = class_order plan; nodes = map node_of stored })
made_reduced plan root rest begun passed stored made removal walk distinct below = record {
  filled = omega (arith, many_nodes plan root rest begun passed stored made);
  relations = all_numbered (λ node. IsRelation node.relation) (map node_of stored) (λ i l.
      subst IsRelation (sym (relation_is plan root rest begun passed stored i made l))
      (made.are_stored.relations_are i (stored_node plan root rest begun passed stored i made l).0));
  distinct = distinct;
  below = below;
  in_order = laid.in_order;
  widths = laid.widths;
  order = laid.order;
  keys = laid.keys;
  goes_on = λ first node before after f e held. made_goes_on plan root rest begun passed stored made laid
      first node before after f e held;
  emptied = λ first others e none. made_emptied plan root rest begun passed stored made first others e none;
}
  where
    laid : AreLaid plan (map node_of stored)
    laid = columns plan (map node_of stored) removal walk
        (made_columns plan root rest begun passed stored made)

pub made_reduction : (plan : Removal) (root : ClassRows) (rest begun passed : List ClassRows)
    (stored : List Stored) → AreMade plan root rest begun passed stored
    → IsReductionOf (root ∷ rest) (record { classes = class_order plan; nodes = map node_of stored })
made_reduction plan root rest begun passed stored made = record {
  projections = all_numbered (IsNodeProjection) (map node_of stored)
      (λ i l. subst (IsProjectionOfJoin (root ∷ rest))
      (sym (relation_is plan root rest begun passed stored i made l))
      (projection i (stored_node plan root rest begun passed stored i made l).0));
  same_join = λ f. (
    λ h. (made.are_begun.join f).0 (λ k d l. was_held f h k d l),
    λ h. held_by_each (map node_of stored) f (λ node m. still_held f ((made.are_begun.join f).1 h) node m),
  );
}
  where
    IsNodeProjection : Node → Type 0
    IsNodeProjection node = IsProjectionOfJoin (root ∷ rest) node.relation

    many : length passed ≡ length begun
    many = made.are_passed.reduced.many

    all_remain : (k : ℕ) → Remains 0 k
    all_remain zero = inl refl
    all_remain (suc k) = inr (omega arith)

    projection : (i : ℕ) → i < length passed → IsProjectionOfJoin (root ∷ rest) (relation_at passed i)
    projection i l f = (
      λ h. (let (g, all, alike) = made.are_passed.exact i (omega (arith, many)) (all_remain i) f h in
          (g, (made.are_begun.join g).0 all, alike)),
      λ (g, all, alike). subst (Contains (relation_at passed i).rows)
          (sym (map_agree (relation_at passed i).classes f g alike))
          (made.are_passed.reduced.kept g i (omega (arith, many)) ((made.are_begun.join g).1 all)),
    )

    was_held : (f : Assignment)
        → JoinHolds (record { classes = class_order plan; nodes = map node_of stored }) f
        → (k : ℕ) (d : ClassRows) → k < length begun → Holds (get_or begun k d) f
    was_held f h k d l =
        let within : k < length (map node_of stored) =
        omega (arith, length-map stored node_of, made.are_stored.many, many) in
        let here : Holds (node_at (map node_of stored) k).relation f =
        each_holds (map node_of stored) f (node_at (map node_of stored) k) h
        (Contains-get_or (map node_of stored) k _ within) in
        let there : Holds (relation_at passed k) f = subst (λ r. Holds r f)
        (relation_is plan root rest begun passed stored k made within) here in
        subst (λ r. Holds r f) (get_or_default begun k _ d l) (made.are_passed.reduced.within f k l there)

    still_held : (f : Assignment) → HoldsAll begun f → (node : Node) → Contains (map node_of stored) node
        → Holds node.relation f
    still_held f all node m =
        let (i, l, e) = numbered (map node_of stored) node m in
        let held : Holds (relation_at passed i) f = made.are_passed.reduced.kept f i
        (omega (arith, many, (stored_node plan root rest begun passed stored i made l).0)) all in
        subst (λ (n : Node). Holds n.relation f) e
        (subst (λ r. Holds r f) (sym (relation_is plan root rest begun passed stored i made l)) held)

-- ---- the work

pub total_fewer : (nodes given : List ClassRows) → length nodes ≡ length given
    → ((k : ℕ) → k < length given → rows_at nodes k ≤ rows_at given k) → total_rows nodes ≤ total_rows given
total_fewer [] [] many h = omega arith
total_fewer [] (g ∷ gs) many h = absurd (omega arith)
total_fewer (n ∷ ns) [] many h = absurd (omega arith)
total_fewer (n ∷ ns) (g ∷ gs) many h =
    let rest = total_fewer ns gs (omega arith) (λ k l. h (suc k) (omega arith)) in
    let here = h 0 (omega arith) in
    omega (
      arith,
      rest,
      here,
      sum_by-cons (λ (r : ClassRows). length r.rows) n ns,
      sum_by-cons (λ (r : ClassRows). length r.rows) g gs,
    )
