-- The fronts of the walk over a reduced join: an assignment that the nodes of a front hold extends to one of
-- the join.
use Rattle.std.proofs.Common.{◌≡◌, ℕ, Bool, true, cond, IsTrue, List, [], ◌∷◌, ◌++◌, length, map, take, drop}
use Rattle.std.proofs.Common.{reverse, Contains, All, refl, sym, ap, ◌∙◌, subst, inl, inr, arith}
use Rattle.std.proofs.lemmas.Bool.{cases_Bool}
use Rattle.std.proofs.lemmas.List.{append_assoc, append-nil, take-append-drop, length-map, map-append}
use Rattle.std.proofs.lemmas.List.{take_at, reverse-reverse}
use Rattle.std.proofs.lemmas.List.Concat.{flat_map-append}
use Rattle.std.proofs.lemmas.List.Elements.{All-contains, All-map, All-cons, All-nil, Contains-append_left}
use Rattle.std.proofs.lemmas.List.Elements.{Contains-append_right, Contains-append_cases}
use Rattle.std.proofs.lemmas.Slice.Eq.{bytes_eq-Decides}
use Rattle.pl_rows.specs.Rows.{begins_with}
use Rattle.pl_rows.proofs.Canonical.{Contains-nil, Contains-cons_cases, Contains-cons_first}
use Rattle.pl_rows.proofs.Canonical.{Contains-cons_rest}
use Rattle.pl_join.specs.Relation.{Assignment, AreDistinct, IsRelation, Holds, HoldsAll, Agree, has_class}
use Rattle.pl_join.proofs.Assignments.{value_of, map_agree, agree_map, row_held}
use Rattle.pl_join.proofs.Members.{Contains-map, has_class-Contains, Contains-flat_map}
use Rattle.pl_join.proofs.Members.{Contains-from_flat_map}
use Rattle.pl_reduce.specs.Nodes.{Node, ReducedJoin, relations_of, key_classes, new_classes}
use Rattle.pl_reduce.specs.Walk.{walk_of, classes_along}
use Rattle.pl_reduce.specs.Reduced.{IsReduced, JoinHolds, KeysAreHeldBefore, FrontsAreProjections}
use Rattle.pl_reduce.proofs.Lists.{all_members, parted, Contains-reverse, found, parts_apart}

-- the walk has the nodes, and no others
pub walked : (nodes : List Node) (node : Node) → Contains nodes node → Contains (walk_of nodes) node
walked [] node h = absurd (Contains-nil node h)
walked (root ∷ others) node h = elim (Contains-cons_cases root others node h) [
  | inl e ↦ subst (Contains (root ∷ reverse others)) e (Contains-cons_first root (reverse others))
  | inr m ↦ Contains-cons_rest root (reverse others) node (Contains-reverse others node m)
]

pub from_walked : (nodes : List Node) (node : Node) → Contains (walk_of nodes) node → Contains nodes node
from_walked [] node h = absurd (Contains-nil node h)
from_walked (root ∷ others) node h = elim (Contains-cons_cases root (reverse others) node h) [
  | inl e ↦ subst (Contains (root ∷ others)) e (Contains-cons_first root others)
  | inr m ↦ Contains-cons_rest root others node
      (subst (λ xs. Contains xs node) (reverse-reverse others) (Contains-reverse (reverse others) node m))
]

-- what is held by each node's relation is held by all, and back
pub held_by_each : (nodes : List Node) (f : Assignment)
    → ((node : Node) → Contains nodes node → Holds node.relation f) → HoldsAll (relations_of nodes) f
held_by_each nodes f h = All-map (λ relation. Holds relation f) (λ (node : Node). node.relation) nodes
    (all_members (λ node. Holds node.relation f) nodes h)

pub each_holds : (nodes : List Node) (f : Assignment) (node : Node) → HoldsAll (relations_of nodes) f
    → Contains nodes node → Holds node.relation f
each_holds nodes f node all h =
    All-contains (λ relation. Holds relation f) (relations_of nodes) node.relation all
    (Contains-map (λ (n : Node). n.relation) nodes node h)

-- the classes of a node that was walked have been met
pub met : (join : ReducedJoin) → IsReduced join → (front rest : List Node) (node : Node) (c : ℕ)
    → walk_of join.nodes ≡ front ++ rest → Contains front node → Contains node.relation.classes c
    → Contains (classes_along front) c
met join is front rest node c e h m =
    let (before, after, parts) = parted front node h in
    let whole : walk_of join.nodes ≡ before ++ node ∷ (after ++ rest) = e ∙ ap (λ xs. xs ++ rest) parts
    ∙ append_assoc before (node ∷ after) rest in
    let keys : All (Contains (classes_along before)) (key_classes node) =
    is.keys before (after ++ rest) node whole in
    let cut : Contains (key_classes node ++ new_classes node) c =
    subst (λ xs. Contains xs c) (sym (take-append-drop node.width node.relation.classes)) m in
    elim (Contains-append_cases (key_classes node) (new_classes node) c cut) [
      | inl k ↦ (
          let early : Contains (classes_along before) c = All-contains (Contains (classes_along before))
          (key_classes node) c keys k in
          subst (λ xs. Contains xs c)
          (sym (ap classes_along parts ∙ flat_map-append new_classes before (node ∷ after)))
          (Contains-append_left (classes_along before) (classes_along (node ∷ after)) c early))
      | inr n ↦ Contains-flat_map new_classes front node c h n
    ]

-- the values of a row for the node's classes, and elsewhere those of an assignment
abbrev pub glued : List ℕ → Assignment → Assignment → Assignment
glued classes v f c = cond (has_class classes c) (v c) (f c)

pub glued_there : (classes : List ℕ) (v f : Assignment) (c : ℕ) → Contains classes c
    → glued classes v f c ≡ v c
glued_there classes v f c h = let y : has_class classes c ≡ true = (has_class-Contains classes c).1 h in
    rw y refl

pub glued_elsewhere : (classes : List ℕ) (v f : Assignment) (c : ℕ) → (Contains classes c → v c ≡ f c)
    → glued classes v f c ≡ f c
glued_elsewhere classes v f c h = elim (cases_Bool (has_class classes c)) [
  | inl y ↦ rw y (h ((has_class-Contains classes c).0 y))
  | inr n ↦ rw n refl
]

-- a row that begins with the values of the key agrees with the assignment on the key
key_agrees : (classes : List ℕ) (n : ℕ) (row : List ℕ) (f : Assignment)
    → map (value_of classes row) classes ≡ row → begins_with (map f (take n classes)) row ≡ true
    → Agree (take n classes) (value_of classes row) f
key_agrees classes n row f whole begins =
    let v : Assignment = value_of classes row in
    let front : take (length (map f (take n classes))) row ≡ map f (take n classes) =
    (bytes_eq-Decides (take (length (map f (take n classes))) row) (map f (take n classes))).0 begins in
    let parts : row ≡ map v (take n classes) ++ map v (drop n classes) = sym whole
    ∙ ap (map v) (sym (take-append-drop n classes)) ∙ map-append v (take n classes) (drop n classes) in
    let long : length (map f (take n classes)) ≡ length (map v (take n classes)) =
    length-map (take n classes) f ∙ sym (length-map (take n classes) v) in
    let same : take (length (map f (take n classes))) row ≡ map v (take n classes) =
    ap (take (length (map f (take n classes)))) parts
    ∙ take_at (map v (take n classes)) (map v (drop n classes)) (length (map f (take n classes)))
    (sym long) in
    agree_map (take n classes) v f (sym same ∙ front)

-- the classes that a node brings were not met before
new_apart : (join : ReducedJoin) → IsReduced join → (front after : List Node) (node : Node) (c : ℕ)
    → walk_of join.nodes ≡ front ++ node ∷ after → Contains (classes_along front) c
    → Contains (new_classes node) c → ⊥
new_apart join is front after node c e h m =
    let parts : join.classes ≡ classes_along front ++ classes_along (node ∷ after) = is.order
    ∙ ap classes_along e ∙ flat_map-append new_classes front (node ∷ after) in
    parts_apart (classes_along front) (classes_along (node ∷ after)) c (subst AreDistinct parts is.distinct) h
    (Contains-append_left (new_classes node) (classes_along after) c m)

-- what agrees on the key agrees on each class of the node that was met
met_agrees : (join : ReducedJoin) → IsReduced join → (front after : List Node) (node : Node)
    (v f : Assignment) (c : ℕ) → walk_of join.nodes ≡ front ++ node ∷ after → Agree (key_classes node) v f
    → Contains (classes_along front) c → Contains node.relation.classes c → v c ≡ f c
met_agrees join is front after node v f c e keys m k =
    let cut : Contains (key_classes node ++ new_classes node) c =
    subst (λ xs. Contains xs c) (sym (take-append-drop node.width node.relation.classes)) k in
    elim (Contains-append_cases (key_classes node) (new_classes node) c cut) [
      | inl i ↦ keys c i
      | inr n ↦ absurd (new_apart join is front after node c e m n)
    ]

shows : (b : Bool) → IsTrue b → b ≡ true
shows b t = grind arith

held_too : (front : List Node) (node n : Node) (h : Assignment) → Contains (front ++ node ∷ []) n
    → HoldsAll (relations_of front) h → Holds node.relation h → Holds n.relation h
held_too front node n h m there here = elim (Contains-append_cases front (node ∷ []) n m) [
  | inl i ↦ each_holds front h n there i
  | inr i ↦ (elim (Contains-cons_cases node [] n i) [
    | inl e ↦ subst (λ (x : Node). Holds x.relation h) e here
    | inr l ↦ absurd (Contains-nil n l)
  ])
]

-- an assignment of a front goes on to the next node
one_more : (join : ReducedJoin) → IsReduced join → (root : Node) (before after : List Node) (node : Node)
    (f : Assignment) → walk_of join.nodes ≡ root ∷ before ++ node ∷ after
    → HoldsAll (relations_of (root ∷ before)) f → (h : Assignment)
    × HoldsAll (relations_of (root ∷ before ++ node ∷ [])) h × Agree (classes_along (root ∷ before)) f h
one_more join is root before after node f e held =
    let (row, at, begins) = found (begins_with (map f (key_classes node))) node.relation.rows
    (shows _ (is.goes_on root node before after f e held)) in
    let v : Assignment = value_of node.relation.classes row in
    let h : Assignment = glued node.relation.classes v f in
    let among : Contains join.nodes node = from_walked join.nodes node
    (subst (λ xs. Contains xs node) (sym e)
    (Contains-append_right (root ∷ before) (node ∷ after) node (Contains-cons_first node after))) in
    let relation : IsRelation node.relation = All-contains (λ (n : Node). IsRelation n.relation) join.nodes
    node is.relations among in
    let whole : map v node.relation.classes ≡ row = row_held node.relation relation row at in
    let keys : Agree (key_classes node) v f = key_agrees node.relation.classes node.width row f whole
    begins in
    let same : Agree (classes_along (root ∷ before)) f h = λ c m.
    sym (glued_elsewhere node.relation.classes v f c
    (λ k. met_agrees join is (root ∷ before) after node v f c e keys m k)) in
    let here : Holds node.relation h = subst (Contains node.relation.rows)
    (sym (map_agree node.relation.classes h v (λ c k. glued_there node.relation.classes v f c k) ∙ whole))
    at in
    let there : HoldsAll (relations_of (root ∷ before)) h = held_by_each (root ∷ before) h (λ n m.
    subst (Contains n.relation.rows)
    (map_agree n.relation.classes f h
    (λ c k. same c (met join is (root ∷ before) (node ∷ after) n c e m k)))
    (each_holds (root ∷ before) f n held m)) in (
      h,
      held_by_each (root ∷ before ++ node ∷ []) h (λ n m. held_too (root ∷ before) node n h m there here),
      same,
    )

-- an assignment of a front extends to one of the join that agrees with it on the classes met
pub extends : (join : ReducedJoin) → IsReduced join → (root : Node) (before after : List Node)
    (f : Assignment) → walk_of join.nodes ≡ root ∷ before ++ after → HoldsAll (relations_of (root ∷ before)) f
    → (g : Assignment) × HoldsAll (relations_of (walk_of join.nodes)) g
    × Agree (classes_along (root ∷ before)) f g
extends join is root before [] f e held =
    let whole : walk_of join.nodes ≡ root ∷ before = e ∙ append-nil (root ∷ before) in
    (f, subst (λ nodes. HoldsAll (relations_of nodes) f) (sym whole) held, λ c m. refl)
extends join is root before (node ∷ after) f e held =
    let (h, more, same) = one_more join is root before after node f e held in
    let parts : walk_of join.nodes ≡ root ∷ (before ++ node ∷ []) ++ after = e
    ∙ sym (append_assoc (root ∷ before) (node ∷ []) after) in
    let (g, all, agree) = extends join is root (before ++ node ∷ []) after h parts more in (
      g,
      all,
      λ c m. same c m
          ∙ agree c (subst (λ xs. Contains xs c)
          (sym (flat_map-append new_classes (root ∷ before) (node ∷ [])))
          (Contains-append_left (classes_along (root ∷ before)) (classes_along (node ∷ [])) c m)),
    )

-- the walk's join is the nodes'
pub walk_holds : (join : ReducedJoin) (f : Assignment) → JoinHolds join f
    → HoldsAll (relations_of (walk_of join.nodes)) f
walk_holds join f h = held_by_each (walk_of join.nodes) f
    (λ n m. each_holds join.nodes f n h (from_walked join.nodes n m))

pub join_holds : (join : ReducedJoin) (f : Assignment) → HoldsAll (relations_of (walk_of join.nodes)) f
    → JoinHolds join f
join_holds join f h = held_by_each join.nodes f
    (λ n m. each_holds (walk_of join.nodes) f n h (walked join.nodes n m))

pub fronts : (join : ReducedJoin) → IsReduced join → FrontsAreProjections join
fronts join is [] rest f e l = absurd (omega arith)
fronts join is (root ∷ before) rest f e l = (
  λ held. (let (g, all, agree) = extends join is root before rest f e held in
      (g, join_holds join g all, agree)),
  λ (g, all, agree). held_by_each (root ∷ before) f (λ n m.
      subst (Contains n.relation.rows)
      (sym (map_agree n.relation.classes f g
      (λ c k. agree c (met join is (root ∷ before) rest n c e m k))))
      (each_holds join.nodes g n all
      (from_walked join.nodes n
      (subst (λ xs. Contains xs n) (sym e) (Contains-append_left (root ∷ before) rest n m))))),
)

-- a root without a row is one of an empty join, and back
pub none_held : (join : ReducedJoin) → (root : Node) (others : List Node) (f : Assignment)
    → join.nodes ≡ root ∷ others → root.relation.rows ≡ [] → JoinHolds join f → ⊥
none_held join root others f e none held =
    let here : Holds root.relation f = each_holds join.nodes f root held
    (subst (λ xs. Contains xs root) (sym e) (Contains-cons_first root others)) in
    Contains-nil (map f root.relation.classes)
    (subst (λ rows. Contains rows (map f root.relation.classes)) none here)

pub row_extends : (join : ReducedJoin) → IsReduced join → (root : Node) (others : List Node) (row : List ℕ)
    → join.nodes ≡ root ∷ others → Contains root.relation.rows row → (g : Assignment) × JoinHolds join g
row_extends join is root others row e h =
    let among : Contains join.nodes root = subst (λ xs. Contains xs root) (sym e)
    (Contains-cons_first root others) in
    let relation : IsRelation root.relation = All-contains (λ (n : Node). IsRelation n.relation) join.nodes
    root is.relations among in
    let v : Assignment = value_of root.relation.classes row in
    let here : Holds root.relation v = subst (Contains root.relation.rows)
    (sym (row_held root.relation relation row h)) h in
    let front : HoldsAll (relations_of (root ∷ [])) v = All-cons (λ relation. Holds relation v) root.relation
    [] here (All-nil (λ relation. Holds relation v)) in
    let walk : walk_of join.nodes ≡ root ∷ [] ++ reverse others = ap walk_of e in
    let (g, all, agree) = extends join is root [] (reverse others) v walk front in
    (g, join_holds join g all)

pub rows_empty : (join : ReducedJoin) → IsReduced join → (root : Node) (others : List Node)
    → join.nodes ≡ root ∷ others → ((f : Assignment) → JoinHolds join f → ⊥) → length root.relation.rows ≡ 0
rows_empty join is root others e none = empty root.relation.rows
    (λ row h. (let (g, held) = row_extends join is root others row e h in none g held))
  where
    empty : (rows : List (List ℕ)) → ((row : List ℕ) → Contains rows row → ⊥) → length rows ≡ 0
    empty [] h = refl
    empty (row ∷ rows) h = absurd (h row (Contains-cons_first row rows))

-- the key of a node has just the classes that a node walked before it holds
pub keys_held : (join : ReducedJoin) → IsReduced join → KeysAreHeldBefore join
keys_held join is before after node c e = (
  λ k. (let (other, among, new) = Contains-from_flat_map new_classes before c
      (All-contains (Contains (classes_along before)) (key_classes node) c (is.keys before after node e) k) in
      let held : Contains other.relation.classes c = subst (λ xs. Contains xs c)
      (take-append-drop other.width other.relation.classes)
      (Contains-append_right (key_classes other) (new_classes other) c new) in (
        subst (λ xs. Contains xs c) (take-append-drop node.width node.relation.classes)
            (Contains-append_left (key_classes node) (new_classes node) c k),
        (other, among, held),
      )),
  λ (held, (other, among, there)). in_key held (met join is before (node ∷ after) other c e among there),
)
  where
    in_key : Contains node.relation.classes c → Contains (classes_along before) c
        → Contains (key_classes node) c
    in_key held m =
        elim (Contains-append_cases (key_classes node) (new_classes node) c
        (subst (λ xs. Contains xs c) (sym (take-append-drop node.width node.relation.classes)) held)) [
          | inl k ↦ k
          | inr n ↦ absurd (new_apart join is before after node c e m n)
        ]
