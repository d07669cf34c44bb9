-- The relations with which the passes begin: those that are given, arranged, and those that are lent.
use Rattle.std.proofs.Common.{◌≡◌, ◌⊎◌, ◌↔◌, ◌<◌, ◌≤◌, ℕ, zero, suc, true, false, not, is_some, List, [], ◌∷◌}
use Rattle.std.proofs.Common.{Option, None, Some, length, map, Contains, refl, sym, ap, ◌∙◌, subst, inl, inr}
use Rattle.std.proofs.Common.{arith}
use Rattle.std.proofs.lemmas.Bool.{false≢true}
use Rattle.std.proofs.lemmas.List.{get_or_default, length-map}
use Rattle.pl_join.specs.Relation.{ClassRows, Assignment, Holds, HoldsAll}
use Rattle.pl_join.specs.Keyed.{KeyedRows}
use Rattle.pl_hyper.specs.declared.ear.Ear.{Ear}
use Rattle.pl_hyper.specs.Edges as edges
use Rattle.pl_hyper.specs.Ears.{Removal, ear_at}
use Rattle.pl_hyper.specs.ClassOrder.{class_order}
use Rattle.pl_reduce.specs.Plan.{relation_at, core_order, AreOverPlan}
use Rattle.pl_reduce.specs.Recipes.{FixedJoin, option_at, chosen, relations_with, AreOverNodesOf, AreFixed}
use Rattle.pl_reduce.specs.Recipes.{AreGiven}
use Rattle.pl_reduce.specs.Lent.{keyed_at, lent_of, nodes_with, AreThere, AreLent}
use Rattle.pl_reduce.specs.Arranged.{ordered, AreArrangedBelow}
use Rattle.pl_reduce.specs.Fixing.{FixedHold, node_order, AreLentOf}
use Rattle.pl_reduce.proofs.Options.{relations_at, many_with, lent_mapped, none_at, lent_within, some_within}
use Rattle.pl_reduce.proofs.Arrangements.{same_some, none_some}
use Rattle.pl_reduce.proofs.Reductions.{AreBegun}

-- which relations there are: each node has a fixed one or a given one, over its classes
pub record AreRelationsOf (plan : Removal) (fixed given : List (Option ClassRows)) : Type 0 where
  pub core : 0 < length plan.core
  pub many : length given ≡ suc (length plan.removed)
  pub within : (k : ℕ) (r : ClassRows) → option_at fixed k ≡ Some r → k < length given
  pub either : (k : ℕ) → k < length given → option_at given k ≡ None → (r : ClassRows)
      × (option_at fixed k ≡ Some r)
  pub apart : (k : ℕ) (r : ClassRows) → option_at fixed k ≡ Some r → option_at given k ≡ None
  pub over_fixed : AreOverNodesOf plan fixed
  pub over_given : AreOverNodesOf plan given

pub some_or : (o : Option ClassRows) → (o ≡ None) ⊎ ((r : ClassRows) × (o ≡ Some r))
some_or None = inl refl
some_or (Some r) = inr (r, refl)

pub given_at : (fixed given : List (Option ClassRows)) (k : ℕ) (r : ClassRows) → k < length given
    → option_at given k ≡ Some r → relation_at (relations_with fixed given) k ≡ r
given_at fixed given k r l e = relations_at fixed given k l ∙ ap (λ o. chosen o (option_at fixed k)) e

pub fixed_at : (fixed given : List (Option ClassRows)) (k : ℕ) (r : ClassRows) → k < length given
    → option_at given k ≡ None → option_at fixed k ≡ Some r → relation_at (relations_with fixed given) k ≡ r
fixed_at fixed given k r l e f = relations_at fixed given k l ∙ ap (λ o. chosen o (option_at fixed k)) e
    ∙ ap (chosen None) f

each_at : (relations : List ClassRows) (f : Assignment) (k : ℕ) → k < length relations → HoldsAll relations f
    → Holds (relation_at relations k) f
each_at relations f k l all = all k _ l

-- ---- node by node

record IsBegunAt (order : List ℕ) (all : List ClassRows) (node : ℕ) (given begun : ClassRows) : Type 0 where
  pub classes : begun.classes ≡ node_order order node given.classes
  pub forth : (f : Assignment) → Holds begun f → Holds given f
  pub back : (f : Assignment) → HoldsAll all f → Holds begun f
  pub fewer : length begun.rows ≤ length given.rows

at_same : (order : List ℕ) (all : List ClassRows) (node : ℕ) (given begun g b : ClassRows) → given ≡ g
    → begun ≡ b → IsBegunAt order all node g b → IsBegunAt order all node given begun
at_same order all node given begun g b eg eb is = subst (λ x. IsBegunAt order all node x begun) (sym eg)
    (subst (λ x. IsBegunAt order all node g x) (sym eb) is)

all_fixed : (plan : Removal) (fixed given : List (Option ClassRows)) (f : Assignment)
    → AreRelationsOf plan fixed given → HoldsAll (relations_with fixed given) f → FixedHold fixed f
all_fixed plan fixed given f are all k r e =
    let l = are.within k r e in
    subst (λ x. Holds x f) (fixed_at fixed given k r l (are.apart k r e) e)
    (each_at (relations_with fixed given) f k (omega (arith, l, many_with fixed given)) all)

begun_at : (plan : Removal) (fixed given arranged : List (Option ClassRows)) (lent : List (Option KeyedRows))
    (k : ℕ) → AreRelationsOf plan fixed given → AreLentOf plan fixed lent
    → AreArrangedBelow (class_order plan) given arranged (length given) → k < length given
    → (option_at given k ≡ None) ⊎ ((r : ClassRows) × (option_at given k ≡ Some r)) →
    IsBegunAt (class_order plan) (relations_with fixed given) k (relation_at (relations_with fixed given) k)
    (relation_at (nodes_with lent arranged) k)
begun_at plan fixed given arranged lent k are lends is l (inl none) =
    let (r, e) = are.either k l none in
    let (q, at, for) = lends.some k r e in
    at_same (class_order plan) (relations_with fixed given) k _ _ r q.relation
    (fixed_at fixed given k r l none e)
    (fixed_at (map lent_of lent) arranged k q.relation (omega (arith, l, is.many)) (is.none k none)
    (lent_mapped lent k ∙ ap lent_of at))
    (record {
      classes = for.classes;
      forth = for.within;
      back = λ f all. for.kept f (all_fixed plan fixed given f are all);
      fewer = for.fewer;
    })
begun_at plan fixed given arranged lent zero are lends is l (inr (r, e)) =
    at_same (class_order plan) (relations_with fixed given) 0 _ _ r r (given_at fixed given 0 r l e)
    (given_at (map lent_of lent) arranged 0 r (omega (arith, l, is.many)) (is.root ∙ e))
    (record {
      classes = refl;
      forth = λ f h. h;
      back = λ f all. subst (λ x. Holds x f) (given_at fixed given 0 r l e)
          (each_at (relations_with fixed given) f 0 (omega (arith, l, many_with fixed given)) all);
      fewer = omega arith;
    })
begun_at plan fixed given arranged lent (suc i) are lends is l (inr (r, e)) =
    let (s, at, for) = is.some (suc i) r (omega arith) l e in
    at_same (class_order plan) (relations_with fixed given) (suc i) _ _ r s
    (given_at fixed given (suc i) r l e)
    (given_at (map lent_of lent) arranged (suc i) s (omega (arith, l, is.many)) at)
    (record {
      classes = for.classes;
      forth = λ f. (for.same f).0;
      back = λ f all. (for.same f).1
          (subst (λ x. Holds x f) (given_at fixed given (suc i) r l e)
          (each_at (relations_with fixed given) f (suc i) (omega (arith, l, many_with fixed given)) all));
      fewer = for.fewer;
    })

pub begun : (plan : Removal) (fixed given arranged : List (Option ClassRows)) (lent : List (Option KeyedRows))
    → AreRelationsOf plan fixed given → AreLentOf plan fixed lent
    → AreArrangedBelow (class_order plan) given arranged (length given)
    → AreBegun (class_order plan) (relations_with fixed given) (nodes_with lent arranged)
begun plan fixed given arranged lent are lends is = record {
  many = omega (arith, many, many_with fixed given);
  root = (at 0 (omega (arith, are.many))).classes;
  classes = λ k some l. classes k some (omega (arith, l, many_with fixed given));
  join = λ f. (
    λ h k d l. subst (λ r. Holds r f) (get_or_default (relations_with fixed given) k _ d l)
        ((at k (omega (arith, l, many_with fixed given))).forth f
        (each_at (nodes_with lent arranged) f k (omega (arith, l, many_with fixed given, many)) h)),
    λ h k d l. subst (λ r. Holds r f) (get_or_default (nodes_with lent arranged) k _ d l)
        ((at k (omega (arith, l, many))).back f h),
  );
  fewer = λ k l. (at k (omega (arith, l, many_with fixed given))).fewer;
}
  where
    many : length (nodes_with lent arranged) ≡ length given
    many = many_with (map lent_of lent) arranged ∙ is.many

    at : (k : ℕ) → k < length given → IsBegunAt (class_order plan) (relations_with fixed given) k
        (relation_at (relations_with fixed given) k) (relation_at (nodes_with lent arranged) k)
    at k l = begun_at plan fixed given arranged lent k are lends is l (some_or (option_at given k))

    classes : (k : ℕ) → 0 < k → k < length given
        → (relation_at (nodes_with lent arranged) k).classes ≡ ordered (class_order plan)
        (relation_at (relations_with fixed given) k).classes
    classes zero some l = absurd (omega arith)
    classes (suc i) some l = (at (suc i) l).classes

-- ---- over the plan

pub split_nodes : (relations : List ClassRows) → 0 < length relations → (root : ClassRows)
    × (rest : List ClassRows) × (relations ≡ root ∷ rest)
split_nodes [] l = absurd (omega arith)
split_nodes (root ∷ rest) l = (root, rest, refl)

pub over_plan : (plan : Removal) (fixed given : List (Option ClassRows)) (root : ClassRows)
    (rest : List ClassRows) → AreRelationsOf plan fixed given → relations_with fixed given ≡ root ∷ rest
    → AreOverPlan plan root rest
over_plan plan fixed given root rest are e = record {
  core = are.core;
  root_order = root_order (some_or (option_at given 0));
  many = omega (arith, long, are.many);
  ears = λ i c d l. ears i c d (omega (arith, l, long)) (some_or (option_at given (suc i)));
}
  where
    long : suc (length rest) ≡ length given
    long = sym (ap length e) ∙ many_with fixed given

    here : (k : ℕ) (r : ClassRows) → relation_at (relations_with fixed given) k ≡ r
        → relation_at (root ∷ rest) k ≡ r
    here k r s = ap (λ xs. relation_at xs k) (sym e) ∙ s

    root_order : (option_at given 0 ≡ None) ⊎ ((r : ClassRows) × (option_at given 0 ≡ Some r))
        → root.classes ≡ core_order plan
    root_order (inl none) =
        let (r, f) = are.either 0 (omega (arith, are.many)) none in
        ap (λ (x : ClassRows). x.classes)
        (here 0 r (fixed_at fixed given 0 r (omega (arith, are.many)) none f))
        ∙ are.over_fixed.root_order r f
    root_order (inr (r, f)) = ap (λ (x : ClassRows). x.classes)
        (here 0 r (given_at fixed given 0 r (omega (arith, are.many)) f)) ∙ are.over_given.root_order r f

    ears : (i c : ℕ) (d : Ear) → suc i < length given → (option_at given (suc i) ≡ None)
        ⊎ ((r : ClassRows) × (option_at given (suc i) ≡ Some r)) → Contains (relation_at rest i).classes c
        ↔ edges.Holds plan.edges (ear_at plan i d).edge c
    ears i c d l (inl none) =
        let (r, f) = are.either (suc i) l none in
        subst (λ (x : ClassRows). Contains x.classes c ↔ edges.Holds plan.edges (ear_at plan i d).edge c)
        (sym (here (suc i) r (fixed_at fixed given (suc i) r l none f)))
        (are.over_fixed.ears i c d r (omega (arith, l, are.many)) f)
    ears i c d l (inr (r, f)) =
        subst (λ (x : ClassRows). Contains x.classes c ↔ edges.Holds plan.edges (ear_at plan i d).edge c)
        (sym (here (suc i) r (given_at fixed given (suc i) r l f)))
        (are.over_given.ears i c d r (omega (arith, l, are.many)) f)

-- ---- what is there

pub there : (plan : Removal) (fixed given : List (Option ClassRows)) (lent : List (Option KeyedRows))
    → AreRelationsOf plan fixed given → AreLentOf plan fixed lent → AreThere lent given
there plan fixed given lent are lends k l none =
    let (r, e) = are.either k l none in
    let (q, at, for) = lends.some k r e in
    (q, at)

-- ---- where all relations are given

mapped_some : (relations : List ClassRows) (k : ℕ) → k < length relations
    → option_at (map Some relations) k ≡ Some (relation_at relations k)
mapped_some [] k l = absurd (omega arith)
mapped_some (r ∷ relations) zero l = refl
mapped_some (r ∷ relations) (suc k) l = mapped_some relations k (omega arith)

no_fixed : {X : Type 0} (k : ℕ) (r : ClassRows) → option_at [] k ≡ Some r → X
no_fixed k r e = none_some r (option_at [] k) e (none_at k)

mapped_is : (relations : List ClassRows) (k : ℕ) (r : ClassRows) → option_at (map Some relations) k ≡ Some r
    → (k < length relations) × (relation_at relations k ≡ r)
mapped_is relations k r e =
    let l : k < length relations =
    omega (
      arith,
      some_within (map Some relations) k r e,
      length-map relations (λ (r : ClassRows). Some r),
    ) in (
      l,
      same_some (relation_at relations k) r (option_at (map Some relations) k)
          (mapped_some relations k l) e,
    )

pub all_relations : (plan : Removal) (root : ClassRows) (rest : List ClassRows) → AreOverPlan plan root rest
    → AreRelationsOf plan [] (map Some (root ∷ rest))
all_relations plan root rest over = record {
  core = over.core;
  many = omega (arith, over.many, long);
  within = λ k r e. no_fixed k r e;
  either = λ k l none. none_some (relation_at (root ∷ rest) k) (option_at (map Some (root ∷ rest)) k)
      (mapped_some (root ∷ rest) k (omega (arith, l, long))) none;
  apart = λ k r e. no_fixed k r e;
  over_fixed = record {
    root_order = λ r e. no_fixed 0 r e;
    ears = λ i c d r l e. no_fixed (suc i) r e;
  };
  over_given = record {
    root_order = λ r e. subst (λ (x : ClassRows). x.classes ≡ core_order plan)
        (mapped_is (root ∷ rest) 0 r e).1 over.root_order;
    ears = λ i c d r l e. subst (λ (x : ClassRows). Contains x.classes c
        ↔ edges.Holds plan.edges (ear_at plan i d).edge c) (mapped_is (root ∷ rest) (suc i) r e).1
        (over.ears i c d (omega (arith, l, over.many)));
  };
}
  where
    long : length (map Some (root ∷ rest)) ≡ suc (length rest)
    long = length-map (root ∷ rest) (λ (r : ClassRows). Some r)

no_lent : {X : Type 0} (k : ℕ) (q : KeyedRows) → keyed_at [] k ≡ Some q → X
no_lent k q e = absurd (let l = lent_within [] k q e in omega arith)

none_lent_at : (k : ℕ) → keyed_at [] k ≡ None
none_lent_at zero = refl
none_lent_at (suc k) = refl

pub none_lent : (plan : Removal) → AreLentOf plan [] []
none_lent plan = record {
  none = λ k e. none_lent_at k;
  some = λ k r e. no_fixed k r e;
  widths = λ k q e. no_lent k q e;
}

pub no_pairs : (parents : List ℕ) → AreLent parents [] []
no_pairs parents i some l = record {
  turned_is = λ q t eq et. no_lent i t et;
  turned_of = λ t et. no_lent i t et;
  up = λ q k eq ek. no_lent i k ek;
  down = λ q k eq ek. no_lent i k ek;
}

-- where they are given for the nodes without a fixed one
pub given_relations : (join : FixedJoin) (given : List (Option ClassRows)) → AreFixed join.plan join.fixed
    → AreGiven join given → AreRelationsOf join.plan join.fixed given
given_relations join given are is = record {
  core = are.core;
  many = is.many;
  within = λ k r e. omega (arith, some_within join.fixed k r e, are.many, is.many);
  either = λ k l none. either k none (is.one_each k l) (some_or (option_at join.fixed k));
  apart = λ k r e. apart k r e
      (is.one_each k (omega (arith, some_within join.fixed k r e, are.many, is.many)))
      (some_or (option_at given k));
  over_fixed = are.over;
  over_given = is.over;
}
  where
    false_true : {X : Type 0} → false ≡ true → X
    false_true e = absurd (false≢true e)

    either : (k : ℕ) → option_at given k ≡ None → is_some (option_at given k) ≡ not
        (is_some (option_at join.fixed k)) → (option_at join.fixed k ≡ None)
        ⊎ ((r : ClassRows) × (option_at join.fixed k ≡ Some r)) → (r : ClassRows)
        × (option_at join.fixed k ≡ Some r)
    either k none e (inr found) = found
    either k none e (inl f) = false_true (sym (ap is_some none) ∙ e ∙ ap (λ o. not (is_some o)) f)

    apart : (k : ℕ) (r : ClassRows) → option_at join.fixed k ≡ Some r
        → is_some (option_at given k) ≡ not (is_some (option_at join.fixed k)) → (option_at given k ≡ None)
        ⊎ ((r : ClassRows) × (option_at given k ≡ Some r)) → option_at given k ≡ None
    apart k r f e (inl none) = none
    apart k r f e (inr (s, at)) = false_true (sym (sym (ap is_some at) ∙ e ∙ ap (λ o. not (is_some o)) f))
