use Rattle.std.proofs.Common.{◌+◌, ◌-◌, ◌*◌, ◌≤◌, ◌∙◌, ◌∷◌, [], List, Option, Some, length, map, subst}
use Rattle.pl_join.specs.Relation.{ClassRows}
use Rattle.pl_hyper.specs.ClassOrder.{class_order}
use Rattle.pl_reduce.specs.Passes.{total_rows}
use Rattle.pl_reduce.specs.Recipes.{relations_with}
use Rattle.pl_reduce.specs.Reduced.{IsReductionOf}
use Rattle.pl_reduce.specs.Runs.{IsRun}
use Rattle.pl_reduce.proofs.Options.{all_given}
use Rattle.pl_reduce.proofs.Wholes.{bare, given_cost}
use Rattle.pl_reduce.proofs.Endings.{given_done, given_there, run_moved, done_held, done_parents}
use Rattle.pl_reduce.proofs.Endings.{done_whole, done_columns, done_reduction}
use Rattle.pl_reduce.proofs.reduced.Reduced.reduce.Goals as goal

pub reduce_nodes-requires-clause-held : goal.reduce_nodes-requires-clause-held
reduce_nodes-requires-clause-held g c = λ k r some e.
    (let plan = c.args.plan.now in
    let known = c.in_ok-layout.ensures.plan in
    let given : List (Option ClassRows) = map Some (c.args.root ∷ c.args.rest.items) in
    let done = given_done plan _ _ c.args.root c.args.rest.items c.requires known in
    done_held plan [] given c.in_ok-own.own.items [] _ _ c.classes.result.now k r done
    (c.classes.ensures ∙ known.order) c.in_ok-own.ensures some e)

pub reduce_nodes-requires-clause-parents : goal.reduce_nodes-requires-clause-parents
reduce_nodes-requires-clause-parents g c = λ arranged are.
    (let plan = c.args.plan.now in
    let known = c.in_ok-layout.ensures.plan in
    let given : List (Option ClassRows) = map Some (c.args.root ∷ c.args.rest.items) in
    let done = given_done plan _ _ c.args.root c.args.rest.items c.requires known in
    done_parents plan [] given c.in_ok-own.own.items arranged [] _ _ c.classes.result.now c.deref.result.now
    done (c.classes.ensures ∙ known.order) c.deref.ensures.value c.in_ok-own.ensures are)

pub reduce_nodes-requires-clause-there : goal.reduce_nodes-requires-clause-there
reduce_nodes-requires-clause-there g c =
    given_there c.args.plan.now c.in_ok-own.own.items c.args.root c.args.rest.items c.requires
    c.in_ok-own.ensures

pub returns-in_err-nodes-clause-cost : goal.returns-in_err-nodes-clause-cost
returns-in_err-nodes-clause-cost g c =
    given_cost c.args.root c.args.rest.items _ _
    (subst (λ own. c.reduce_nodes.new.steps ≤ c.args.steps.now + (3 * length own - 1) * total_rows
    (relations_with [] own)) c.in_ok-own.ensures c.reduce_nodes.ensures.cost)

pub returns-clause-cost : goal.returns-clause-cost
returns-clause-cost g c =
    given_cost c.args.root c.args.rest.items _ _
    (subst (λ own. c.reduce_nodes.new.steps ≤ c.args.steps.now + (3 * length own - 1) * total_rows
    (relations_with [] own)) c.in_ok-own.ensures c.reduce_nodes.ensures.cost)

pub new-requires : goal.new-requires
new-requires g c =
    let plan = c.args.plan.now in
    let known = c.in_ok-layout.ensures.plan in
    let given : List (Option ClassRows) = map Some (c.args.root ∷ c.args.rest.items) in
    let done = given_done plan _ _ c.args.root c.args.rest.items c.requires known in
    let run : IsRun (bare plan) (class_order plan) [] given c.in_ok-nodes.nodes.items =
    run_moved plan _ _ c.classes.result.now [] c.in_ok-own.own.items given c.in_ok-nodes.nodes.items
    c.edges.ensures.edges c.removed.ensures.removed (c.classes.ensures ∙ known.order) c.in_ok-own.ensures
    c.in_ok-nodes.ensures.run in
    done_whole plan [] given [] _ _ c.in_ok-layout.layout c.in_ok-nodes.nodes.items done
    c.in_ok-layout.ensures.layout run

pub returns-clause-columns : goal.returns-clause-columns
returns-clause-columns g c =
    let plan = c.args.plan.now in
    let known = c.in_ok-layout.ensures.plan in
    let given : List (Option ClassRows) = map Some (c.args.root ∷ c.args.rest.items) in
    let done = given_done plan _ _ c.args.root c.args.rest.items c.requires known in
    let run : IsRun (bare plan) (class_order plan) [] given c.in_ok-nodes.nodes.items =
    run_moved plan _ _ c.classes.result.now [] c.in_ok-own.own.items given c.in_ok-nodes.nodes.items
    c.edges.ensures.edges c.removed.ensures.removed (c.classes.ensures ∙ known.order) c.in_ok-own.ensures
    c.in_ok-nodes.ensures.run in
    done_columns plan [] given [] _ _ c.in_ok-layout.layout.classes c.in_ok-nodes.nodes.items c.new.result
    done c.new.ensures run

pub returns-clause-reduction : goal.returns-clause-reduction
returns-clause-reduction g c =
    let plan = c.args.plan.now in
    let known = c.in_ok-layout.ensures.plan in
    let given : List (Option ClassRows) = map Some (c.args.root ∷ c.args.rest.items) in
    let done = given_done plan _ _ c.args.root c.args.rest.items c.requires known in
    let run : IsRun (bare plan) (class_order plan) [] given c.in_ok-nodes.nodes.items =
    run_moved plan _ _ c.classes.result.now [] c.in_ok-own.own.items given c.in_ok-nodes.nodes.items
    c.edges.ensures.edges c.removed.ensures.removed (c.classes.ensures ∙ known.order) c.in_ok-own.ensures
    c.in_ok-nodes.ensures.run in
    subst (λ xs. IsReductionOf xs c.new.result) (all_given (c.args.root ∷ c.args.rest.items))
    (done_reduction plan [] given [] _ _ c.in_ok-layout.layout.classes c.in_ok-nodes.nodes.items c.new.result
    done c.new.ensures known.order run)
