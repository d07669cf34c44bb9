-- What the two public reductions know of their plan and of the run.
use Rattle.std.proofs.Common.{◌≡◌, ◌<◌, ℕ, List, [], ◌∷◌, Option, Some, length, map}
use Rattle.std.proofs.Common.{All, Contains, refl, sym, ap, ◌∙◌, subst}
use Rattle.pl_join.specs.Relation.{ClassRows}
use Rattle.pl_join.specs.Keyed.{KeyedRows}
use Rattle.pl_hyper.specs.declared.ear.Ear.{Ear}
use Rattle.pl_hyper.specs.Ears.{Removal}
use Rattle.pl_hyper.specs.ClassOrder.{class_order}
use Rattle.pl_reduce.specs.declared.reduced.Stored.{Stored}
use Rattle.pl_reduce.specs.Nodes.{ReducedJoin}
use Rattle.pl_reduce.specs.Plan.{AreColumns, AreOverPlan}
use Rattle.pl_reduce.specs.Passes.{AreParents}
use Rattle.pl_reduce.specs.Recipes.{FixedJoin, option_at, relations_with, AreFixed, AreGiven}
use Rattle.pl_reduce.specs.Lent.{lent_of, nodes_with, AreThere}
use Rattle.pl_reduce.specs.Arranged.{AreArrangedBelow}
use Rattle.pl_reduce.specs.Reduced.{IsReduced, IsReductionOf}
use Rattle.pl_reduce.specs.Kept.{node_of, join_of, IsKept}
use Rattle.pl_reduce.specs.Layout.{LayoutView, IsLayoutFor}
use Rattle.pl_reduce.specs.Runs.{IsRun}
use Rattle.pl_reduce.specs.Fixing.{AreLentOf, AreFixedPairs, AreTurnedOf, IsPlan, IsRecipe}
use Rattle.pl_reduce.proofs.Beginnings.{AreRelationsOf, all_relations, given_relations, none_lent, there}
use Rattle.pl_reduce.proofs.Keyings.{are_lent}
use Rattle.pl_reduce.proofs.Laying.{layout_is}
use Rattle.pl_reduce.proofs.Wholes.{bare, run_held, run_parents, run_kept, run_columns, run_reduction}
use Rattle.pl_reduce.proofs.Wholes.{arranged_moved}

pub run_moved : (plan : Removal) (edges : List ℕ) (ears : List Ear) (classes : List ℕ)
    (lent : List (Option KeyedRows)) (own given : List (Option ClassRows)) (stored : List Stored)
    → edges ≡ plan.edges → ears ≡ plan.removed → classes ≡ class_order plan → own ≡ given
    → IsRun (record { edges = edges; removed = ears; core = [] }) classes lent own stored
    → IsRun (bare plan) (class_order plan) lent given stored
run_moved plan edges ears classes lent own given stored ee er ec eg run =
    subst (λ es. IsRun (record { edges = es; removed = plan.removed; core = [] })
    (class_order plan) lent given stored) ee
    (subst (λ xs. IsRun (record { edges = edges; removed = xs; core = [] })
    (class_order plan) lent given stored) er
    (subst (λ os. IsRun (record { edges = edges; removed = ears; core = [] }) os lent given stored) ec
    (subst (λ gs. IsRun (record { edges = edges; removed = ears; core = [] }) classes lent gs stored) eg
    run)))

-- what a reduction knows: the plan, its relations, those that are lent, and the run
pub record IsDone (plan : Removal) (fixed given : List (Option ClassRows)) (lent : List (Option KeyedRows))
    (classes parents : List ℕ) : Type 0 where
  pub plan_is : IsPlan plan classes parents
  pub relations : AreRelationsOf plan fixed given
  pub lent_are : AreLentOf plan fixed lent

-- that it is known where all relations are given
pub given_done : (plan : Removal) (classes parents : List ℕ) (root : ClassRows) (rest : List ClassRows)
    → AreOverPlan plan root rest → IsPlan plan classes parents
    → IsDone plan [] (map Some (root ∷ rest)) [] classes parents
given_done plan classes parents root rest over known = record {
  plan_is = known;
  relations = all_relations plan root rest over;
  lent_are = none_lent plan;
}

-- and where some are fixed
pub fixed_done : (join : FixedJoin) (given : List (Option ClassRows)) (classes parents : List ℕ)
    (lent turned : List (Option KeyedRows)) → IsRecipe join.plan join.fixed classes parents lent turned
    → AreGiven join given → IsDone join.plan join.fixed given lent classes parents
fixed_done join given classes parents lent turned recipe are = record {
  plan_is = recipe.plan_is;
  relations = given_relations join given recipe.are_fixed are;
  lent_are = recipe.lent_are;
}

pub done_held : (plan : Removal) (fixed given own : List (Option ClassRows)) (lent : List (Option KeyedRows))
    (classes parents slice : List ℕ) (k : ℕ) (r : ClassRows) → IsDone plan fixed given lent classes parents
    → slice ≡ class_order plan → own ≡ given → 0 < k → option_at own k ≡ Some r
    → All (Contains slice) r.classes
done_held plan fixed given own lent classes parents slice k r is es eo some e =
    subst (λ os. All (Contains os) r.classes) (sym es)
    (run_held plan fixed given k r is.plan_is.walkable is.plan_is.are_classes is.relations some
    (ap (λ xs. option_at xs k) (sym eo) ∙ e))

pub done_parents : (plan : Removal) (fixed given own arranged : List (Option ClassRows))
    (lent : List (Option KeyedRows)) (classes parents slice parent_slice : List ℕ)
    → IsDone plan fixed given lent classes parents → slice ≡ class_order plan → parent_slice ≡ parents
    → own ≡ given → AreArrangedBelow slice own arranged (length own)
    → AreParents parent_slice (nodes_with lent arranged)
done_parents plan fixed given own arranged lent classes parents slice parent_slice is es ep eo are =
    subst (λ ps. AreParents ps (nodes_with lent arranged)) (sym ep)
    (run_parents plan fixed given arranged lent parents is.plan_is.walkable is.plan_is.words
    is.plan_is.are_classes is.plan_is.parents_are is.relations is.lent_are
    (arranged_moved (class_order plan) slice own given arranged es eo are))

pub done_kept : (plan : Removal) (fixed given : List (Option ClassRows)) (lent : List (Option KeyedRows))
    (classes parents items : List ℕ) (stored : List Stored) → IsDone plan fixed given lent classes parents
    → items ≡ class_order plan → IsRun (bare plan) (class_order plan) lent given stored
    → IsReduced (record { classes = items; nodes = map node_of stored })
done_kept plan fixed given lent classes parents items stored is e run =
    subst (λ os. IsReduced (record { classes = os; nodes = map node_of stored })) (sym e)
    (run_kept plan fixed given lent stored classes parents is.plan_is is.relations is.lent_are run)

-- and its layout is that of the plan
pub done_whole : (plan : Removal) (fixed given : List (Option ClassRows)) (lent : List (Option KeyedRows))
    (classes parents : List ℕ) (layout : LayoutView) (stored : List Stored)
    → IsDone plan fixed given lent classes parents → IsLayoutFor plan layout
    → IsRun (bare plan) (class_order plan) lent given stored → IsKept layout stored
done_whole plan fixed given lent classes parents layout stored is laid run = record {
  reduced = done_kept plan fixed given lent classes parents layout.classes stored is laid.classes run;
  laid = layout_is plan (join_of layout stored) layout laid refl
      (run_columns plan fixed given lent stored is.relations is.lent_are run);
}

pub done_columns : (plan : Removal) (fixed given : List (Option ClassRows)) (lent : List (Option KeyedRows))
    (classes parents items : List ℕ) (stored : List Stored) (join : ReducedJoin)
    → IsDone plan fixed given lent classes parents
    → join ≡ record { classes = items; nodes = map node_of stored }
    → IsRun (bare plan) (class_order plan) lent given stored → AreColumns plan join.nodes
done_columns plan fixed given lent classes parents items stored join is e run =
    subst (λ (j : ReducedJoin). AreColumns plan j.nodes) (sym e)
    (run_columns plan fixed given lent stored is.relations is.lent_are run)

pub done_reduction : (plan : Removal) (fixed given : List (Option ClassRows)) (lent : List (Option KeyedRows))
    (classes parents items : List ℕ) (stored : List Stored) (join : ReducedJoin)
    → IsDone plan fixed given lent classes parents
    → join ≡ record { classes = items; nodes = map node_of stored } → items ≡ class_order plan
    → IsRun (bare plan) (class_order plan) lent given stored → IsReductionOf (relations_with fixed given) join
done_reduction plan fixed given lent classes parents items stored join is e ei run =
    subst (IsReductionOf (relations_with fixed given))
    (sym (e ∙ ap (λ os. record { classes = os; nodes = map node_of stored }) ei))
    (run_reduction plan fixed given lent stored is.relations is.lent_are run)

pub given_there : (plan : Removal) (own : List (Option ClassRows)) (root : ClassRows) (rest : List ClassRows)
    → AreOverPlan plan root rest → own ≡ map Some (root ∷ rest) → AreThere [] own
given_there plan own root rest over e = subst (AreThere []) (sym e)
    (there plan [] (map Some (root ∷ rest)) [] (all_relations plan root rest over) (none_lent plan))

-- the layout of a plan is that of its parts
pub layout_moved : (plan : Removal) (edges : List ℕ) (ears : List Ear) (core : List ℕ) (layout : LayoutView)
    → edges ≡ plan.edges → ears ≡ plan.removed → core ≡ plan.core → IsLayoutFor plan layout
    → IsLayoutFor (record { edges = edges; removed = ears; core = core }) layout
layout_moved plan edges ears core layout ee er ec is =
    subst (λ p. IsLayoutFor p layout)
    (λ i. record { edges = (sym ee) i; removed = (sym er) i; core = (sym ec) i }) is

-- what the parts of a recipe make together
pub recipe_made : (plan : Removal) (edges : List ℕ) (ears : List Ear)
    (core classes parents parent_slice fixed_parents : List ℕ) (fixed : List (Option ClassRows))
    (lent lent_slice turned : List (Option KeyedRows)) → edges ≡ plan.edges → ears ≡ plan.removed
    → core ≡ plan.core → parent_slice ≡ parents → fixed_parents ≡ parents
    → lent_slice ≡ lent → AreFixed plan fixed → IsPlan plan classes parents
    → AreLentOf plan fixed lent → AreFixedPairs fixed_parents (map lent_of lent)
    → AreTurnedOf parent_slice lent_slice turned
    → IsRecipe (record { edges = edges; removed = ears; core = core }) fixed classes parents lent turned
recipe_made plan edges ears core classes parents parent_slice fixed_parents fixed lent lent_slice turned ee er
    ec ep ef el are known lends pairs turns =
    subst (λ es. IsRecipe (record { edges = es; removed = ears; core = core }) fixed classes parents lent
    turned) (sym ee)
    (subst (λ xs. IsRecipe (record { edges = plan.edges; removed = xs; core = core }) fixed classes parents
    lent turned) (sym er)
    (subst (λ cs. IsRecipe (record { edges = plan.edges; removed = plan.removed; core = cs }) fixed classes
    parents lent turned) (sym ec) made))
  where
    made : IsRecipe plan fixed classes parents lent turned
    made = record {
      are_fixed = are;
      plan_is = known;
      lent_are = lends;
      pairs = are_lent parents lent turned (subst (λ ps. AreFixedPairs ps (map lent_of lent)) ef pairs)
          (subst (λ ls. AreTurnedOf parents ls turned) el
          (subst (λ ps. AreTurnedOf ps lent_slice turned) ep turns));
    }
