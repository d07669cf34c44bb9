use Rattle.std.proofs.Common.{◌≡◌, [], refl, sym, subst}
use Rattle.pl_hyper.specs.ClassOrder.{class_order}
use Rattle.pl_reduce.specs.Arranged.{key_width}
use Rattle.pl_reduce.specs.Runs.{IsRun}
use Rattle.pl_reduce.proofs.Beginnings.{there}
use Rattle.pl_reduce.proofs.Wholes.{bare, lent_cost}
use Rattle.pl_reduce.proofs.Endings.{fixed_done, run_moved, done_held, done_parents, done_whole}
use Rattle.pl_reduce.proofs.Endings.{done_columns, done_reduction}
use Rattle.pl_reduce.proofs.reduced.Reduced.reduce_with.Goals as goal

pub reduce_nodes-requires-clause-held : goal.reduce_nodes-requires-clause-held
reduce_nodes-requires-clause-held g c = λ k r some e.
    (let join = c.args.recipe.now in
    let given = c.args.given.items in
    let done = fixed_done join given _ _ _ _ c.shape-shape.ensures.recipe c.requires in
    done_held join.plan join.fixed given given _ _ _ _ k r done done.plan_is.order refl some e)

pub reduce_nodes-requires-clause-parents : goal.reduce_nodes-requires-clause-parents
reduce_nodes-requires-clause-parents g c = λ arranged are.
    (let join = c.args.recipe.now in
    let given = c.args.given.items in
    let done = fixed_done join given _ _ _ _ c.shape-shape.ensures.recipe c.requires in
    done_parents join.plan join.fixed given given arranged _ _ _ _ _ done done.plan_is.order refl refl are)

pub reduce_nodes-requires-clause-there : goal.reduce_nodes-requires-clause-there
reduce_nodes-requires-clause-there g c =
    let join = c.args.recipe.now in
    let given = c.args.given.items in
    let done = fixed_done join given _ _ _ _ c.shape-shape.ensures.recipe c.requires in
    there join.plan join.fixed given _ done.relations done.lent_are

pub reduce_nodes-requires-clause-widths : goal.reduce_nodes-requires-clause-widths
reduce_nodes-requires-clause-widths g c = λ k q e.
    (let s = c.shape-shape.result in
    let join = c.args.recipe.now in
    subst (λ es. q.width ≡ key_width (record { edges = es; removed = s.ears.now; core = [] }) k
    q.relation.classes) (sym c.shape-shape.ensures.edges)
    (subst (λ xs. q.width ≡ key_width (record { edges = join.plan.edges; removed = xs; core = [] }) k
    q.relation.classes) (sym c.shape-shape.ensures.ears)
    (c.shape-shape.ensures.recipe.lent_are.widths k q e)))

pub returns-in_err-nodes-clause-cost : goal.returns-in_err-nodes-clause-cost
returns-in_err-nodes-clause-cost g c =
    let join = c.args.recipe.now in
    let given = c.args.given.items in
    let done = fixed_done join given _ _ _ _ c.shape-shape.ensures.recipe c.requires in
    lent_cost join.plan join.fixed given _ _ _ done.relations done.lent_are c.reduce_nodes.ensures.cost

pub returns-clause-cost : goal.returns-clause-cost
returns-clause-cost g c =
    let join = c.args.recipe.now in
    let given = c.args.given.items in
    let done = fixed_done join given _ _ _ _ c.shape-shape.ensures.recipe c.requires in
    lent_cost join.plan join.fixed given _ _ _ done.relations done.lent_are c.reduce_nodes.ensures.cost

pub new-requires : goal.new-requires
new-requires g c =
    let s = c.shape-shape.result in
    let join = c.args.recipe.now in
    let given = c.args.given.items in
    let done = fixed_done join given _ _ _ _ c.shape-shape.ensures.recipe c.requires in
    let run : IsRun (bare join.plan) (class_order join.plan) s.lent.now given c.in_ok-nodes.nodes.items =
    run_moved join.plan _ _ _ _ given given _ c.shape-shape.ensures.edges c.shape-shape.ensures.ears
    done.plan_is.order refl c.in_ok-nodes.ensures.run in
    done_whole join.plan join.fixed given _ _ _ s.layout.now c.in_ok-nodes.nodes.items done
    c.shape-shape.ensures.layout run

pub returns-clause-columns : goal.returns-clause-columns
returns-clause-columns g c =
    let s = c.shape-shape.result in
    let join = c.args.recipe.now in
    let given = c.args.given.items in
    let done = fixed_done join given _ _ _ _ c.shape-shape.ensures.recipe c.requires in
    let run : IsRun (bare join.plan) (class_order join.plan) s.lent.now given c.in_ok-nodes.nodes.items =
    run_moved join.plan _ _ _ _ given given _ c.shape-shape.ensures.edges c.shape-shape.ensures.ears
    done.plan_is.order refl c.in_ok-nodes.ensures.run in
    done_columns join.plan join.fixed given _ _ _ s.layout.now.classes c.in_ok-nodes.nodes.items c.new.result
    done c.new.ensures run

pub returns-clause-reduction : goal.returns-clause-reduction
returns-clause-reduction g c =
    let s = c.shape-shape.result in
    let join = c.args.recipe.now in
    let given = c.args.given.items in
    let done = fixed_done join given _ _ _ _ c.shape-shape.ensures.recipe c.requires in
    let run : IsRun (bare join.plan) (class_order join.plan) s.lent.now given c.in_ok-nodes.nodes.items =
    run_moved join.plan _ _ _ _ given given _ c.shape-shape.ensures.edges c.shape-shape.ensures.ears
    done.plan_is.order refl c.in_ok-nodes.ensures.run in
    done_reduction join.plan join.fixed given _ _ _ s.layout.now.classes c.in_ok-nodes.nodes.items
    c.new.result done c.new.ensures c.shape-shape.ensures.layout.classes run
