-- What a layout says of the node where a stage stops.
use Rattle.std.proofs.Common.{◌≡◌, ◌+◌, ◌-◌, ◌<◌, ◌≤◌, ℕ, IsTrue, List, [], length, map, take, drop, get_or}
use Rattle.std.proofs.Common.{filter, slice_get, slice_range, slice_index, Some, All, Contains, refl, sym, ap}
use Rattle.std.proofs.Common.{◌∙◌, subst, inl, inr, arith}
use Rattle.std.specs.List.{list_any}
use Rattle.std.proofs.lemmas.Bool.{cases_lt}
use Rattle.std.proofs.lemmas.List.{length-take-le}
use Rattle.std.proofs.lemmas.List.Elements.{All-contains, All-weaker, All-take, Contains-get_or}
use Rattle.std.proofs.lemmas.Option.{slice_get_within, get_or_from_slice_get}
use Rattle.pl_rows.specs.Rows.{Rows, begins_with, AreRowsOf}
use Rattle.pl_rows.proofs.Canonical.{Contains-nil}
use Rattle.pl_join.specs.Relation.{IsRelation, has_class}
use Rattle.pl_join.proofs.Assignments.{few_classes}
use Rattle.pl_join.proofs.Members.{Contains-filter, Contains-from_filter}
use Rattle.pl_reduce.specs.Nodes.{Node, ReducedJoin, node_at}
use Rattle.pl_reduce.specs.Reduced.{IsReduced}
use Rattle.pl_reduce.specs.Layout.{place_in, stop_at}
use Rattle.pl_reduce.specs.declared.layout.Stop.{Stop}
use Rattle.pl_cursor.specs.declared.layout.Layout.{Layout}
use Rattle.pl_cursor.specs.Answers.{Stage, IsStage, AreStages, key_of, stage_at}
use Rattle.pl_cursor.specs.Stages.{stage_of, stages_of}
use Rattle.pl_cursor.specs.Kept.{IsStop, IsLayout, IsLookedUp, IsFirst, written}
use Rattle.pl_cursor.proofs.Ranges.{range_none}
use Rattle.pl_reduce.proofs.Places.{place_within}
use Rattle.pl_cursor.proofs.Places.{key_read}
use Rattle.pl_cursor.proofs.Following.{stages_at, before-width}
use Rattle.pl_cursor.proofs.Links.{some_passes, length-stage_keys, stages_laid}

-- the node where a stage stops, and what is read there
pub record IsAtStop (join : ReducedJoin) (layout : Layout) (answer : List ℕ) (stage : Stage) (stop : Stop)
    (node : Node) : Type 0 where
  pub node_within : stop.node < length join.nodes
  pub narrow : stop.width ≤ length node.relation.classes
  pub few : length node.relation.classes ≤ 64
  pub index : stop.width ≡ node.width
  pub below : All (λ c. c < 64) (take stop.width node.relation.classes)
  pub within : All (λ c. slice_index layout.places.now c < 64) (take stop.width node.relation.classes)
  pub key : map (λ c. slice_index answer (slice_index layout.places.now c))
      (take stop.width node.relation.classes) ≡ key_of stage.keys (take stage.from answer)
  pub keys : length stage.keys ≡ stop.width
  pub rows : stage.rows ≡ node.relation.rows
  pub from : stage.from ≡ stop.from
  pub wide : All (λ row. length row ≡ length node.relation.classes) stage.rows

pub narrow_join : (join : ReducedJoin) → IsReduced join → length join.classes ≤ 64
narrow_join join is = few_classes join.classes 64 is.distinct is.below

-- each class of a node is one of the join
node_classes : (join : ReducedJoin) → IsReduced join → (node : Node) → Contains join.nodes node
    → All (Contains join.classes) node.relation.classes
node_classes join is node h =
    let order : node.relation.classes ≡ filter (has_class node.relation.classes) join.classes =
    All-contains (λ (n : Node). n.relation.classes ≡ filter (has_class n.relation.classes) join.classes)
    join.nodes node is.in_order h in
    λ k d l. (Contains-from_filter (has_class node.relation.classes) join.classes
    (get_or node.relation.classes k d)
    (subst (λ cs. Contains cs (get_or node.relation.classes k d)) order
    (Contains-get_or node.relation.classes k d l))).0

pub at_stop : (join : ReducedJoin) (layout : Layout) (t : ℕ) (answer : List ℕ) → IsLayout join layout
    → t < length layout.stops.now →
    IsAtStop join layout answer (stage_at (stages_of join) t) (stop_at layout.stops.now t)
    (node_at join.nodes (stop_at layout.stops.now t).node)
at_stop join layout t answer is l =
    let stop : Stop = stop_at layout.stops.now t in
    let node : Node = node_at join.nodes stop.node in
    let stage : Stage = stage_at (stages_of join) t in
    let it : IsStop join stage stop = is.stops t l in
    let among : Contains join.nodes node = Contains-get_or join.nodes stop.node
    (record { relation = record { classes = []; rows = [] }; width = 0 }) it.node in
    let relation : IsRelation node.relation = All-contains (λ (n : Node). IsRelation n.relation) join.nodes
    node is.reduced.relations among in
    let wide : node.width ≤ length node.relation.classes = All-contains
    (λ (n : Node). n.width ≤ length n.relation.classes) join.nodes node is.reduced.widths among in
    let classes : All (Contains join.classes) (take node.width node.relation.classes) =
    All-take (Contains join.classes) node.width node.relation.classes
    (node_classes join is.reduced node among) in
    let places : All (λ c. slice_index layout.places.now c ≡ place_in join.classes c)
    (take node.width node.relation.classes) =
    All-weaker (Contains join.classes) (λ c. slice_index layout.places.now c ≡ place_in join.classes c)
    is.places
    (take node.width node.relation.classes) classes in
    let (brought, kind, rest) = stages_at (stages_of join) 0 (length join.classes) t
    (stages_laid join is.reduced) (omega (arith, is.count)) in
    let early : All (λ k. k < stage.from) (stage_of join.classes stop.from node).keys =
    subst (λ (s : Stage). All (λ k. k < stage.from) s.keys) it.is kind.keys in
    let keys_same : stage.keys ≡ (stage_of join.classes stop.from node).keys =
    ap (λ (s : Stage). s.keys) it.is in
    record {
      node_within = it.node;
      narrow = omega (arith, it.width);
      few = few_classes node.relation.classes 64 relation.distinct relation.below;
      index = it.width;
      below = rw it.width (All-take (λ c. c < 64) node.width node.relation.classes relation.below);
      within = rw it.width (All-weaker (Contains join.classes) (λ c. slice_index layout.places.now c < 64)
          (λ c h. (let there = is.places c h in let near = place_within join.classes c h in let few =
          narrow_join join is.reduced in omega (arith, there, near, few)))
          (take node.width node.relation.classes) classes);
      key = rw it.width
          (key_read join.classes layout.places.now answer stage.from (take node.width node.relation.classes)
          places early ∙ ap (λ ks. key_of ks (take stage.from answer)) (sym keys_same));
      keys = ap length keys_same ∙ length-stage_keys join.classes stop.from node wide ∙ sym it.width;
      rows = ap (λ (s : Stage). s.rows) it.is;
      from = ap (λ (s : Stage). s.from) it.is;
      wide = subst (λ (s : Stage). All (λ row. length row ≡ length node.relation.classes) s.rows)
          (sym it.is) relation.rows.width;
    }

-- what a row brings has room among the values of the classes
pub row_fits : (join : ReducedJoin) (layout : Layout) (t place : ℕ) (row : List ℕ) → IsLayout join layout
    → t < length layout.stops.now → slice_get (stage_at (stages_of join) t).rows place ≡ Some row →
    (stop_at layout.stops.now t).from + (length row - (stop_at layout.stops.now t).width) ≤ length
    join.classes
row_fits join layout t place row is l at =
    let stage : Stage = stage_at (stages_of join) t in
    let (brought, kind, rest) = stages_at (stages_of join) 0 (length join.classes) t
    (stages_laid join is.reduced) (omega (arith, is.count)) in
    let held : Contains stage.rows row = (
      place,
      slice_get_within stage.rows place row at,
      get_or_from_slice_get stage.rows place row row at,
    ) in
    let wide : length row ≡ length stage.keys + brought = All-contains
    (λ r. length r ≡ length stage.keys + brought) stage.rows row kind.rows.width held in
    let within = before-width _ (stage.from + brought) (length join.classes) rest in
    let stop = at_stop join layout t [] is l in
    omega (arith, wide, within, stop.keys, stop.from)

-- where a row goes on with the values, there is one at the first place
pub some_found : (key : List ℕ) (rows : List (List ℕ)) (from to : ℕ)
    → IsTrue (list_any (begins_with key) rows) → slice_range rows from to ≡ filter (begins_with key) rows
    → from < to
some_found key rows from to any all = elim (cases_lt from to) [
  | inl l ↦ l
  | inr ge ↦ (
      let (row, held, begins) = some_passes (begins_with key) rows any in
      absurd (Contains-nil row
      (subst (λ xs. Contains xs row) (sym all ∙ range_none rows from to ge)
      (Contains-filter (begins_with key) rows row held begins))))
]

-- what a look-up found
pub looked_up : (stage : Stage) (answer key classes read : List ℕ) (width from to : ℕ) (rows : List (List ℕ))
    → length stage.keys ≡ width → width ≤ length classes →
    take (length (take width classes)) key ≡ read → read ≡ key_of stage.keys (take stage.from answer)
    → stage.rows ≡ rows →
    AreRowsOf (take width key) rows from to → slice_range rows from to ≡ filter
    (begins_with (take width key)) rows → IsLookedUp stage answer key from to
looked_up stage answer key classes read width from to rows k l e f r are all =
    let long : length (take width classes) ≡ width = length-take-le width classes l in
    let same : take width key ≡ key_of stage.keys (take stage.from answer) = ap (λ n. take n key) (sym long)
    ∙ e ∙ f in
    record {
      key_is = ap (λ n. take n key) k ∙ same;
      rows = rw r (subst (λ q. AreRowsOf q rows from to) same are);
      all = rw r (subst (λ q. slice_range rows from to ≡ filter (begins_with q) rows) same all);
    }

pub first_found : (stage : Stage) (answer key : List ℕ) (from to : ℕ) → IsLookedUp stage answer key from to
    → IsTrue (list_any (begins_with (key_of stage.keys (take stage.from answer))) stage.rows) → from < to
first_found stage answer key from to up any = some_found (key_of stage.keys (take stage.from answer))
    stage.rows from to any up.all

-- a row of a stage is one of its node's table
pub row_there : (rows node_rows : List (List ℕ)) (table : Rows) (arity place : ℕ) (row : List ℕ)
    → rows ≡ node_rows → table ≡ record { arity = arity; rows = node_rows }
    → slice_get table.rows place ≡ Some row → slice_get rows place ≡ Some row
row_there rows node_rows table arity place row e t at =
    ap (λ rs. slice_get rs place) (e ∙ sym (ap (λ (t : Rows). t.rows) t)) ∙ at

-- the first row that was found is taken
pub first_row : (stage : Stage) (before after key : List ℕ) (from to width start : ℕ) (row : List ℕ)
    → IsLookedUp stage before key from to → slice_get stage.rows from ≡ Some row → length stage.keys ≡ width
    → stage.from ≡ start → after ≡ written before start (drop width row)
    → IsFirst stage before after (record { at = from + 1; to = to })
first_row stage before after key from to width start row up at k s wrote = record {
  from = from;
  row = row;
  next = refl;
  rows = up.rows;
  all = up.all;
  taken = at;
  wrote = wrote ∙ (λ i. written before ((sym s) i) (drop ((sym k) i) row));
}

-- what a stage brings, where a row of it goes on with the answer
pub record Brings (join : ReducedJoin) (t brought : ℕ) : Type 0 where
  pub kind : IsStage (stage_at (stages_of join) t) (stage_at (stages_of join) t).from brought
  pub rest : AreStages (drop (t + 1) (stages_of join)) ((stage_at (stages_of join) t).from + brought)
      (length join.classes)

pub stop_brings : (join : ReducedJoin) (layout : Layout) (t arity : ℕ) (answer : List ℕ)
    → IsLayout join layout → t < length layout.stops.now
    → arity ≡ length (node_at join.nodes (stop_at layout.stops.now t).node).relation.classes →
    IsTrue (list_any
    (begins_with (key_of (stage_at (stages_of join) t).keys
    (take (stage_at (stages_of join) t).from answer))) (stage_at (stages_of join) t).rows) →
    Brings join t (arity - (stop_at layout.stops.now t).width)
stop_brings join layout t arity answer is l classes any =
    let stage : Stage = stage_at (stages_of join) t in
    let there = at_stop join layout t answer is l in
    let (brought, kind, rest) = stages_at (stages_of join) 0 (length join.classes) t
    (stages_laid join is.reduced) (omega (arith, is.count)) in
    let (row, held, begins) = some_passes (begins_with (key_of stage.keys (take stage.from answer)))
    stage.rows any in
    let wide = All-contains
    (λ r. length r ≡ length (node_at join.nodes (stop_at layout.stops.now t).node).relation.classes)
    stage.rows row there.wide held in
    let long = All-contains (λ r. length r ≡ length stage.keys + brought) stage.rows row kind.rows.width
    held in
    let same : brought ≡ arity - (stop_at layout.stops.now t).width =
    omega (arith, wide, long, there.keys, there.narrow, classes) in
    subst (Brings join t) same (record { kind = kind; rest = rest })

-- and it has room among the values of the classes
pub brings_fits : (join : ReducedJoin) (t brought : ℕ) → Brings join t brought
    → (stage_at (stages_of join) t).from + brought ≤ length join.classes
brings_fits join t brought brings = before-width _ ((stage_at (stages_of join) t).from + brought)
    (length join.classes) brings.rest
