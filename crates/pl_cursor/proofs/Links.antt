-- The stages of a reduced join: how they follow one another, that no choice of rows ends before an answer,
-- and that their answers are those of the join.
use Rattle.std.proofs.Common.{◌≡◌, ◌↔◌, ◌+◌, ◌<◌, ◌≤◌, ℕ, Bool, true, false, IsTrue, List, []}
use Rattle.std.proofs.Common.{◌∷◌, ◌++◌, length, map, take, drop, filter, slice_index, All}
use Rattle.std.proofs.Common.{Contains, refl, sym, ap, ◌∙◌, subst, inl, inr, arith}
use Rattle.std.specs.List.{list_any}
use Rattle.std.proofs.lemmas.Bool.{cases_Bool, cases_lt, false≢true}
use Rattle.std.proofs.lemmas.Bool.Decides.{nat_tests}
use Rattle.std.proofs.lemmas.List.{append_assoc, append-nil, take-append-drop, length-append, length-map}
use Rattle.std.proofs.lemmas.List.{length-drop, length-take-le, map-append, take_at, drop_at, drop_all}
use Rattle.std.proofs.lemmas.List.{nil_from_length}
use Rattle.std.proofs.lemmas.List.{get_or_append_left}
use Rattle.std.proofs.lemmas.List.Concat.{flat_map-append}
use Rattle.std.proofs.lemmas.List.Elements.{All-contains, All-append, All-head, All-tail, All-cons, All-nil}
use Rattle.std.proofs.lemmas.List.Elements.{Contains-append_right}
use Rattle.std.proofs.lemmas.Slice.Eq.{bytes_eq-Decides}
use Rattle.pl_rows.specs.Rows.{AreRows, begins_with}
use Rattle.pl_rows.proofs.Canonical.{Contains-nil, Contains-cons_first, Contains-cons_rest}
use Rattle.pl_join.specs.Relation.{Assignment, AreDistinct, IsRelation, Holds, HoldsAll}
use Rattle.pl_join.proofs.Assignments.{value_of, restored}
use Rattle.pl_join.proofs.Members.{Contains-filter, Contains-from_filter}
use Rattle.pl_reduce.specs.Nodes.{Node, ReducedJoin, relations_of, key_classes, new_classes}
use Rattle.pl_reduce.specs.Layout.{place_in, brings}
use Rattle.pl_reduce.specs.Walk.{walk_of, classes_along, GoesOn}
use Rattle.pl_reduce.specs.Reduced.{IsReduced, JoinHolds}
use Rattle.pl_reduce.proofs.Walks.{from_walked, walk_holds, join_holds, none_held}
use Rattle.pl_cursor.specs.Answers.{IsStage, AreStages, key_of, matching, grown, answers, IsAnswer}
use Rattle.pl_cursor.specs.Stages.{stage_of, stages_from, stages_of}
use Rattle.pl_cursor.specs.Kept.{NeverEnds}
use Rattle.pl_cursor.specs.Cursor.{IsAnswerOf}
use Rattle.pl_reduce.proofs.Places.{place_within, place_append}
use Rattle.pl_cursor.proofs.Places.{value_at_place}
use Rattle.pl_cursor.proofs.Chains.{members}
use Rattle.pl_cursor.proofs.Fronts.{chain-length, length-grown_matching}

-- ---- lists

-- one that passes
pub some_passes : {X : Type 0} (p : X → Bool) (xs : List X) → list_any p xs ≡ true → (x : X) × Contains xs x
    × (p x ≡ true)
some_passes p [] h = absurd (false≢true h)
some_passes p (a ∷ xs) h = elim (cases_Bool (p a)) [
  | inl y ↦ (a, Contains-cons_first a xs, y)
  | inr n ↦ (let (x, m, y) = some_passes p xs (rw n at h) in (x, Contains-cons_rest a xs x m, y))
]

-- two fronts of one length
split_same : (xs ys us vs : List ℕ) → length xs ≡ length us → xs ++ ys ≡ us ++ vs → (xs ≡ us) × (ys ≡ vs)
split_same xs ys us vs l e = (
  sym (take_at xs ys (length xs) refl) ∙ ap (take (length xs)) e ∙ take_at us vs (length xs) (sym l),
  sym (drop_at xs ys (length xs) refl) ∙ ap (drop (length xs)) e ∙ drop_at us vs (length xs) (sym l),
)

-- ---- a node of the walk

-- the classes of a part of the walk stand in class order before those of the rest
pub classes_split : (join : ReducedJoin) → IsReduced join → (before after : List Node)
    → walk_of join.nodes ≡ before ++ after → join.classes ≡ classes_along before ++ classes_along after
classes_split join is before after e = is.order ∙ ap classes_along e
    ∙ flat_map-append new_classes before after

classes_more : (before : List Node) (node : Node) → classes_along (before ++ node ∷ []) ≡ classes_along before
    ++ new_classes node
classes_more before node = flat_map-append new_classes before (node ∷ [])
    ∙ ap (λ cs. classes_along before ++ cs) (append-nil (new_classes node))

walked_node : (join : ReducedJoin) (before after : List Node) (node : Node) → walk_of join.nodes ≡ before
    ++ node ∷ after → Contains join.nodes node
walked_node join before after node e =
    from_walked join.nodes node
    (subst (λ xs. Contains xs node) (sym e)
    (Contains-append_right before (node ∷ after) node (Contains-cons_first node after)))

node_relation : (join : ReducedJoin) → IsReduced join → (before after : List Node) (node : Node)
    → walk_of join.nodes ≡ before ++ node ∷ after → IsRelation node.relation
node_relation join is before after node e = All-contains (λ (n : Node). IsRelation n.relation) join.nodes node
    is.relations (walked_node join before after node e)

node_width : (join : ReducedJoin) → IsReduced join → (before after : List Node) (node : Node)
    → walk_of join.nodes ≡ before ++ node ∷ after → node.width ≤ length node.relation.classes
node_width join is before after node e = All-contains (λ (n : Node). n.width ≤ length n.relation.classes)
    join.nodes node is.widths (walked_node join before after node e)

-- the walk goes one node on
onward : (before after : List Node) (node : Node) (walk : List Node) → walk ≡ before ++ node ∷ after
    → walk ≡ (before ++ node ∷ []) ++ after
onward before after node walk e = e ∙ sym (append_assoc before (node ∷ []) after)

-- the key of a node is among the classes that were met, so its places are below their number
keys_below : (met rest keys : List ℕ) → All (Contains met) keys
    → All (λ k. k < length met) (map (place_in (met ++ rest)) keys)
keys_below met rest [] h = All-nil (λ k. k < length met)
keys_below met rest (c ∷ keys) h =
    let there : Contains met c = All-head (Contains met) c keys h in
    let here : place_in (met ++ rest) c < length met = rw (place_append met rest c there)
    (place_within met c there) in
    All-cons (λ k. k < length met) (place_in (met ++ rest) c) (map (place_in (met ++ rest)) keys) here
    (keys_below met rest keys (All-tail (Contains met) c keys h))

-- and the values at these places are those of the key
key_values : (met rest keys : List ℕ) (f : Assignment) → All (Contains met) keys
    → key_of (map (place_in (met ++ rest)) keys) (map f met) ≡ map f keys
key_values met rest [] f h = refl
key_values met rest (c ∷ keys) f h =
    let there : Contains met c = All-head (Contains met) c keys h in
    let here : slice_index (map f met) (place_in (met ++ rest) c) ≡ f c =
    ap (slice_index (map f met)) (place_append met rest c there) ∙ value_at_place met f c there in
    let others : key_of (map (place_in (met ++ rest)) keys) (map f met) ≡ map f keys =
    key_values met rest keys f (All-tail (Contains met) c keys h) in
    λ i. here i ∷ others i

-- the key of a node's stage is that of the node
node_key : (join : ReducedJoin) → IsReduced join → (before after : List Node) (node : Node) (from : ℕ)
    (f : Assignment) → walk_of join.nodes ≡ before ++ node ∷ after
    → key_of (stage_of join.classes from node).keys (map f (classes_along before)) ≡ map f (key_classes node)
node_key join is before after node from f e =
    ap (λ cs. key_of (map (place_in cs) (key_classes node)) (map f (classes_along before)))
    (classes_split join is before (node ∷ after) e)
    ∙ key_values (classes_along before) (classes_along (node ∷ after)) (key_classes node) f
    (is.keys before after node e)

pub length-stage_keys : (classes : List ℕ) (from : ℕ) (node : Node)
    → node.width ≤ length node.relation.classes → length (stage_of classes from node).keys ≡ node.width
length-stage_keys classes from node l = length-map (key_classes node) (place_in classes)
    ∙ length-take-le node.width node.relation.classes l

-- ---- the stages follow one another

node_stage : (join : ReducedJoin) → IsReduced join → (before after : List Node) (node : Node) (from : ℕ)
    → walk_of join.nodes ≡ before ++ node ∷ after → from ≡ length (classes_along before)
    → IsStage (stage_of join.classes from node) from (length (new_classes node))
node_stage join is before after node from e l = record {
  from = refl;
  keys = rw l (subst (λ cs. All (λ k. k < length (classes_along before))
      (map (place_in cs) (key_classes node))) (sym (classes_split join is before (node ∷ after) e))
      (keys_below (classes_along before) (classes_along (node ∷ after)) (key_classes node)
      (is.keys before after node e)));
  rows = (let wide = node_width join is before after node e in
      let long : length node.relation.classes ≡ length (stage_of join.classes from node).keys + length
      (new_classes node) =
      omega (
        arith,
        length-stage_keys join.classes from node wide,
        length-drop node.width node.relation.classes,
      ) in
      subst (λ n. AreRows n node.relation.rows) long (node_relation join is before after node e).rows);
}

brings_none : (node : Node) → brings node ≡ false → length (new_classes node) ≡ 0
brings_none node n = grind (arith, nat_tests, length-drop node.width node.relation.classes)

follow : (join : ReducedJoin) → IsReduced join → (before after : List Node) (from : ℕ)
    → walk_of join.nodes ≡ before ++ after → from ≡ length (classes_along before)
    → AreStages (stages_from join.classes from after) from (length join.classes)
follow join is before [] from e l = l
    ∙ sym (ap length (classes_split join is before [] e ∙ append-nil (classes_along before)))
follow join is before (node ∷ after) from e l =
    let more : length (classes_along (before ++ node ∷ [])) ≡ length (classes_along before) + length
    (new_classes node) =
    ap length (classes_more before node) ∙ length-append (classes_along before) (new_classes node) in
    elim (cases_Bool (brings node)) [
      | inl y ↦ rw y (
        length (new_classes node),
        node_stage join is before after node from e l,
        follow join is (before ++ node ∷ []) after (from + length (new_classes node))
            (onward before after node (walk_of join.nodes) e) (omega arith),
      )
      | inr n ↦ (
          let none : length (new_classes node) ≡ 0 = brings_none node n in
          rw n (follow join is (before ++ node ∷ []) after from
          (onward before after node (walk_of join.nodes) e) (omega arith)))
    ]

pub stages_laid : (join : ReducedJoin) → IsReduced join → AreStages (stages_of join) 0 (length join.classes)
unfolding stages_of
stages_laid join is = follow join is [] (walk_of join.nodes) 0 refl refl

-- ---- no choice of rows ends before an answer

-- the root has a row
abbrev pub IsFilled : ReducedJoin → Type 0
IsFilled join = (root : Node) (others : List Node) → join.nodes ≡ root ∷ others
    → 0 < length root.relation.rows

-- an assignment under which the classes that some nodes brought have these values is one of each of the nodes
abbrev IsHeld : List Node → List ℕ → Type 0
IsHeld nodes values = (f : Assignment) → map f (classes_along nodes) ≡ values
    → HoldsAll (relations_of nodes) f

no_key : (node : Node) → All (Contains []) (key_classes node) → key_classes node ≡ []
no_key node h = none (key_classes node) h
  where
    none : (keys : List ℕ) → All (Contains []) keys → keys ≡ []
    none [] h = refl
    none (c ∷ keys) h = absurd (Contains-nil c (All-head (Contains []) c keys h))

some_begins : (rows : List (List ℕ)) → 0 < length rows → IsTrue (list_any (begins_with []) rows)
some_begins [] l = absurd (omega arith)
some_begins (row ∷ rows) l = grind arith

none_filled : (join : ReducedJoin) → IsReduced join → join.nodes ≡ [] → ⊥
none_filled join is n = let filled = is.filled in omega (arith, ap length n)

-- each node of the walk goes on with what the nodes before it hold
goes_on_walk : (join : ReducedJoin) → IsReduced join → IsFilled join
    → (before after : List Node) (node : Node) (f : Assignment) → walk_of join.nodes ≡ before ++ node ∷ after
    → HoldsAll (relations_of before) f → GoesOn f node
goes_on_walk join is filled [] after node f e held = root_first join.nodes refl e
  where
    root_first : (nodes : List Node) → join.nodes ≡ nodes → walk_of nodes ≡ node ∷ after → GoesOn f node
    root_first [] n w = absurd (none_filled join is n)
    root_first (root ∷ others) n w =
        let same : root ≡ node = cc in
        let rows : 0 < length node.relation.rows = subst (λ (r : Node). 0 < length r.relation.rows) same
        (filled root others n) in
        let key : key_classes node ≡ [] = no_key node (is.keys [] after node e) in
        subst (λ ks. IsTrue (list_any (begins_with (map f ks)) node.relation.rows)) (sym key)
        (some_begins node.relation.rows rows)
goes_on_walk join is filled (root ∷ before) after node f e held = is.goes_on root node before after f e held

-- a node has an assignment whose values are one of its rows
node_held : (node : Node) (f : Assignment) (row : List ℕ) → Contains node.relation.rows row
    → take node.width row ≡ map f (key_classes node) → drop node.width row ≡ map f (new_classes node)
    → Holds node.relation f
node_held node f row held key new =
    let parts : map f node.relation.classes ≡ row =
    ap (map f) (sym (take-append-drop node.width node.relation.classes))
    ∙ map-append f (key_classes node) (new_classes node)
    ∙ (λ i. (sym key) i ++ (sym new) i) ∙ take-append-drop node.width row in
    subst (Contains node.relation.rows) (sym parts) held

-- one node more is held
held_and : (before : List Node) (node : Node) (f : Assignment) → HoldsAll (relations_of before) f
    → Holds node.relation f → HoldsAll (relations_of (before ++ node ∷ [])) f
held_and before node f h k =
    let parts : relations_of (before ++ node ∷ []) ≡ relations_of before
    ++ node.relation ∷ [] = map-append (λ (n : Node). n.relation) before (node ∷ []) in
    subst (λ rs. HoldsAll rs f) (sym parts)
    (All-append (λ relation. Holds relation f) (relations_of before) (node.relation ∷ []) h
    (All-cons (λ relation. Holds relation f) node.relation [] k (All-nil (λ relation. Holds relation f))))

-- a row that goes on with the values of the nodes before it
row_key : (join : ReducedJoin) → IsReduced join → (before after : List Node) (node : Node) (from : ℕ)
    (f : Assignment) (values row : List ℕ) → walk_of join.nodes ≡ before ++ node ∷ after
    → map f (classes_along before) ≡ values → Contains (matching (stage_of join.classes from node) values) row
    → Contains node.relation.rows row × (take node.width row ≡ map f (key_classes node))
row_key join is before after node from f values row e same h =
    let key : List ℕ = key_of (stage_of join.classes from node).keys values in
    let (held, begins) = Contains-from_filter (begins_with key) node.relation.rows row h in
    let front : take (length key) row ≡ key = (bytes_eq-Decides (take (length key) row) key).0 begins in
    let key_same : key ≡ map f (key_classes node) = ap (key_of (stage_of join.classes from node).keys)
    (sym same) ∙ node_key join is before after node from f e in
    let long : length key ≡ node.width = length-map (stage_of join.classes from node).keys
    (slice_index values) ∙ length-stage_keys join.classes from node
    (node_width join is before after node e) in
    (held, ap (λ n. take n row) (sym long) ∙ front ∙ key_same)

held_more : (join : ReducedJoin) → IsReduced join → (before after : List Node) (node : Node) (from : ℕ)
    (values row : List ℕ) → walk_of join.nodes ≡ before ++ node ∷ after
    → length values ≡ length (classes_along before) → IsHeld before values
    → Contains (matching (stage_of join.classes from node) values) row
    → IsHeld (before ++ node ∷ []) (grown (stage_of join.classes from node) values row)
held_more join is before after node from values row e long held h f same =
    let width : length (stage_of join.classes from node).keys ≡ node.width =
    length-stage_keys join.classes from node (node_width join is before after node e) in
    let parts : map f (classes_along before) ++ map f (new_classes node) ≡ values ++ drop node.width row =
    sym (map-append f (classes_along before) (new_classes node)) ∙ ap (map f) (sym (classes_more before node))
    ∙ same ∙ ap (λ n. values ++ drop n row) width in
    let (front, new) = split_same (map f (classes_along before)) (map f (new_classes node)) values
    (drop node.width row) (length-map (classes_along before) f ∙ sym long) parts in
    let (among, key) = row_key join is before after node from f values row e front h in
    held_and before node f (held f front) (node_held node f row among key (sym new))

-- a node that brings nothing holds what goes on to it
held_same : (join : ReducedJoin) → IsReduced join → IsFilled join
    → (before after : List Node) (node : Node) (values : List ℕ) → walk_of join.nodes ≡ before ++ node ∷ after
    → length (new_classes node) ≡ 0 → IsHeld before values → IsHeld (before ++ node ∷ []) values
held_same join is filled before after node values e none held f same =
    let nothing : new_classes node ≡ [] = nil_from_length (new_classes node) none in
    let front : map f (classes_along before) ≡ values = ap (map f)
    (sym (classes_more before node ∙ ap (λ cs. classes_along before ++ cs) nothing
    ∙ append-nil (classes_along before))) ∙ same in
    let there : HoldsAll (relations_of before) f = held f front in
    let (row, among, begins) = some_passes (begins_with (map f (key_classes node))) node.relation.rows
    (goes_on_walk join is filled before after node f e there) in
    let key : take (length (map f (key_classes node))) row ≡ map f (key_classes node) =
    (bytes_eq-Decides (take (length (map f (key_classes node))) row) (map f (key_classes node))).0
    begins in
    let wide : length row ≡ length node.relation.classes = All-contains
    (λ r. length r ≡ length node.relation.classes) node.relation.rows row
    (node_relation join is before after node e).rows.width among in
    let narrow = node_width join is before after node e in
    let long : length (map f (key_classes node)) ≡ node.width = length-map (key_classes node) f
    ∙ length-take-le node.width node.relation.classes narrow in
    let whole : length row ≤ node.width =
    omega (arith, wide, none, length-drop node.width node.relation.classes) in
    held_and before node f there
    (node_held node f row among (ap (λ n. take n row) (sym long) ∙ key)
    (drop_all node.width row whole ∙ sym (ap (map f) nothing)))

-- an assignment with these values
with_values : (join : ReducedJoin) → IsReduced join → (before after : List Node) (values : List ℕ)
    → walk_of join.nodes ≡ before ++ after → length values ≡ length (classes_along before)
    → map (value_of (classes_along before) values) (classes_along before) ≡ values
with_values join is before after values e long =
    restored (classes_along before) values
    (front_distinct (classes_along before) (classes_along after)
    (subst AreDistinct (classes_split join is before after e) is.distinct)) long
  where
    front_distinct : (xs ys : List ℕ) → AreDistinct (xs ++ ys) → AreDistinct xs
    front_distinct xs ys d i j k l m same =
        d i j k l (omega (arith, length-append xs ys))
        (get_or_append_left xs ys k i (omega arith) ∙ same ∙ sym (get_or_append_left xs ys k j m))

never_from : (join : ReducedJoin) → IsReduced join → IsFilled join
    → (before after : List Node) (from : ℕ) (values : List ℕ) → walk_of join.nodes ≡ before ++ after
    → from ≡ length (classes_along before) → length values ≡ from → IsHeld before values
    → NeverEnds (stages_from join.classes from after) values
never_from join is filled before [] from values e l long held = tt
never_from join is filled before (node ∷ after) from values e l long held =
    let more : length (classes_along (before ++ node ∷ [])) ≡ length (classes_along before) + length
    (new_classes node) =
    ap length (classes_more before node) ∙ length-append (classes_along before) (new_classes node) in
    elim (cases_Bool (brings node)) [
      | inl y ↦ rw y (
        any,
        λ row h. never_from join is filled (before ++ node ∷ []) after (from + length (new_classes node))
            (grown (stage_of join.classes from node) values row)
            (onward before after node (walk_of join.nodes) e) (omega (arith, l, more)) (longer row h)
            (held_more join is before after node from values row e (long ∙ l) held h),
      )
      | inr n ↦ (
          let none : length (new_classes node) ≡ 0 = brings_none node n in
          rw n (never_from join is filled (before ++ node ∷ []) after from values
          (onward before after node (walk_of join.nodes) e) (omega (arith, l, more, none)) long
          (held_same join is filled before after node values e none held)))
    ]
  where
    f : Assignment
    f = value_of (classes_along before) values

    same : map f (classes_along before) ≡ values
    same = with_values join is before (node ∷ after) values e (long ∙ l)

    any : IsTrue (list_any (begins_with (key_of (stage_of join.classes from node).keys values))
        node.relation.rows)
    any =
        let key : key_of (stage_of join.classes from node).keys values ≡ map f (key_classes node) =
        ap (key_of (stage_of join.classes from node).keys) (sym same)
        ∙ node_key join is before after node from f e in
        subst (λ k. IsTrue (list_any (begins_with k) node.relation.rows)) (sym key)
        (goes_on_walk join is filled before after node f e (held f same))

    longer : (row : List ℕ) → Contains (matching (stage_of join.classes from node) values) row
        → length (grown (stage_of join.classes from node) values row) ≡ from + length (new_classes node)
    longer row h = length-grown_matching (stage_of join.classes from node) from
        (length (new_classes node)) values row (node_stage join is before after node from e l) long h

pub never_ends : (join : ReducedJoin) → IsReduced join → IsFilled join → NeverEnds (stages_of join) []
unfolding stages_of
never_ends join is filled = never_from join is filled [] (walk_of join.nodes) 0 [] refl refl refl
    (λ f same. All-nil (λ relation. Holds relation f))

-- ---- the answers are those of the join

-- a chain of rows gives an answer that each node holds
chain_held : (join : ReducedJoin) → IsReduced join → IsFilled join
    → (before after : List Node) (from : ℕ) (values answer : List ℕ) → walk_of join.nodes ≡ before ++ after
    → from ≡ length (classes_along before) → length values ≡ from → IsHeld before values
    → IsAnswer (stages_from join.classes from after) values answer → IsHeld (walk_of join.nodes) answer
chain_held join is filled before [] from values answer e l long held same =
    subst (λ walk. IsHeld walk answer) (sym (e ∙ append-nil before)) (subst (IsHeld before) (sym same) held)
chain_held join is filled before (node ∷ after) from values answer e l long held chain =
    let more : length (classes_along (before ++ node ∷ [])) ≡ length (classes_along before) + length
    (new_classes node) =
    ap length (classes_more before node) ∙ length-append (classes_along before) (new_classes node) in
    elim (cases_Bool (brings node)) [
      | inl y ↦ (
          let (row, h, rest) = given y in
          chain_held join is filled (before ++ node ∷ []) after (from + length (new_classes node))
          (grown (stage_of join.classes from node) values row) answer
          (onward before after node (walk_of join.nodes) e) (omega (arith, l, more))
          (length-grown_matching (stage_of join.classes from node) from (length (new_classes node)) values row
          (node_stage join is before after node from e l) long h)
          (held_more join is before after node from values row e (long ∙ l) held h) rest)
      | inr n ↦ (
          let none : length (new_classes node) ≡ 0 = brings_none node n in
          chain_held join is filled (before ++ node ∷ []) after from values answer
          (onward before after node (walk_of join.nodes) e) (omega (arith, l, more, none)) long
          (held_same join is filled before after node values e none held) (rw n at chain))
    ]
  where
    given : brings node ≡ true → (row : List ℕ) × Contains (matching (stage_of join.classes from node) values)
        row × IsAnswer (stages_from join.classes (from + length (new_classes node)) after)
        (grown (stage_of join.classes from node) values row) answer
    given y = rw y at chain

-- an assignment of the join is a chain of rows
join_chain : (join : ReducedJoin) → IsReduced join → (before after : List Node) (from : ℕ) (f : Assignment)
    → walk_of join.nodes ≡ before ++ after → HoldsAll (relations_of after) f
    → IsAnswer (stages_from join.classes from after) (map f (classes_along before)) (map f join.classes)
join_chain join is before [] from f e held = ap (map f)
    (classes_split join is before [] e ∙ append-nil (classes_along before))
join_chain join is before (node ∷ after) from f e held =
    let behind : HoldsAll (relations_of after) f = All-tail (λ relation. Holds relation f) node.relation
    (relations_of after) held in
    elim (cases_Bool (brings node)) [
      | inl y ↦ rw y (
        row,
        matches,
        subst (λ v. IsAnswer (stages_from join.classes (from + length (new_classes node)) after) v
            (map f join.classes)) (sym brought)
            (join_chain join is (before ++ node ∷ []) after (from + length (new_classes node)) f
            (onward before after node (walk_of join.nodes) e) behind),
      )
      | inr n ↦ rw n (subst (λ v. IsAnswer (stages_from join.classes from after) v (map f join.classes))
          (same_values n)
          (join_chain join is (before ++ node ∷ []) after from f
          (onward before after node (walk_of join.nodes) e) behind))
    ]
  where
    row : List ℕ
    row = map f node.relation.classes

    parts : row ≡ map f (key_classes node) ++ map f (new_classes node)
    parts = ap (map f) (sym (take-append-drop node.width node.relation.classes))
        ∙ map-append f (key_classes node) (new_classes node)

    narrow : node.width ≤ length node.relation.classes
    narrow = node_width join is before after node e

    long : length (map f (key_classes node)) ≡ node.width
    long = length-map (key_classes node) f ∙ length-take-le node.width node.relation.classes narrow

    matches : Contains (matching (stage_of join.classes from node) (map f (classes_along before))) row
    matches =
        let key : key_of (stage_of join.classes from node).keys (map f (classes_along before)) ≡ map f
        (key_classes node) = node_key join is before after node from f e in
        let begins : begins_with (map f (key_classes node)) row ≡ true =
        (bytes_eq-Decides (take (length (map f (key_classes node))) row) (map f (key_classes node))).1
        (ap (take (length (map f (key_classes node)))) parts
        ∙ take_at (map f (key_classes node)) (map f (new_classes node))
        (length (map f (key_classes node))) refl) in
        let there : Contains node.relation.rows row = All-head (λ relation. Holds relation f) node.relation
        (relations_of after) held in
        subst (λ k. Contains (filter (begins_with k) node.relation.rows) row) (sym key)
        (Contains-filter (begins_with (map f (key_classes node))) node.relation.rows row there begins)

    brought : grown (stage_of join.classes from node) (map f (classes_along before)) row ≡ map f
        (classes_along (before ++ node ∷ []))
    brought =
        let width : length (stage_of join.classes from node).keys ≡ node.width =
        length-stage_keys join.classes from node narrow in
        ap (λ n. map f (classes_along before) ++ drop n row) width
        ∙ ap (λ r. map f (classes_along before) ++ drop node.width r) parts
        ∙ ap (λ r. map f (classes_along before) ++ r)
        (drop_at (map f (key_classes node)) (map f (new_classes node)) node.width long)
        ∙ sym (map-append f (classes_along before) (new_classes node))
        ∙ ap (map f) (sym (classes_more before node))

    same_values : brings node ≡ false → map f (classes_along (before ++ node ∷ [])) ≡ map f
        (classes_along before)
    same_values n =
        let nothing : new_classes node ≡ [] = nil_from_length (new_classes node) (brings_none node n) in
        ap (map f) (classes_more before node ∙ ap (λ cs. classes_along before ++ cs) nothing
        ∙ append-nil (classes_along before))

-- the answers of the stages are those of the join
pub answers_of : (join : ReducedJoin) → IsReduced join → IsFilled join → (row : List ℕ)
    → Contains (answers (stages_of join) []) row ↔ IsAnswerOf join row
unfolding stages_of
answers_of join is filled row = (forth, back)
  where
    forth : Contains (answers (stages_of join) []) row → IsAnswerOf join row
    forth h =
        let chain : IsAnswer (stages_of join) [] row = (members (stages_of join) [] row).0 h in
        let held : IsHeld (walk_of join.nodes) row = chain_held join is filled []
        (walk_of join.nodes) 0 [] row refl refl refl (λ f same. All-nil (λ relation. Holds relation f))
        chain in
        let f : Assignment = value_of join.classes row in
        let long : length row ≡ length join.classes = chain-length (stages_of join) 0
        (length join.classes) [] row (stages_laid join is) refl chain in
        let values : map f join.classes ≡ row = restored join.classes row is.distinct long in
        (f, join_holds join f (held f (ap (map f) (sym is.order) ∙ values)), sym values)

    back : IsAnswerOf join row → Contains (answers (stages_of join) []) row
    back (f, h, e) = (members (stages_of join) [] row).1
        (subst (IsAnswer (stages_of join) []) (sym e)
        (join_chain join is [] (walk_of join.nodes) 0 f refl (walk_holds join f h)))

-- a join that is not empty has a row in its root
pub filled_join : (join : ReducedJoin) (empty : Bool) → IsReduced join → IsTrue empty
    ↔ ((f : Assignment) → JoinHolds join f → ⊥) → empty ≡ false → IsFilled join
filled_join join empty is tells fails root others e = elim (cases_lt 0 (length root.relation.rows)) [
  | inl l ↦ l
  | inr ge ↦ (
      let none : root.relation.rows ≡ [] = nil_from_length root.relation.rows (omega arith) in
      let yes : empty ≡ true = tells.1 (λ f h. none_held join root others f e none h) in
      absurd (false≢true (sym fails ∙ yes)))
]
