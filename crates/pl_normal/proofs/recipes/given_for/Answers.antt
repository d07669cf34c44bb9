use Rattle.std.proofs.Common.{ap, length}
use Rattle.pl_reduce.specs.Recipes.{relations_with}
use Rattle.pl_normal.specs.Asked.{state_asked}
use Rattle.pl_normal.proofs.Asking.{keeps_static}
use Rattle.pl_normal.proofs.Forms.{schema_of}
use Rattle.pl_normal.proofs.Handing.{all_are, given_are}
use Rattle.pl_normal.proofs.Joins.{nodes_at}
use Rattle.pl_normal.proofs.Leaving.{as_product}
use Rattle.pl_normal.proofs.NodeRows.{nodes_few}
use Rattle.pl_normal.proofs.recipes.given_for.Goals as goal

pub returns-clause-given : goal.returns-clause-given
returns-clause-given g c =
    given_are c.args.query.now.task.now c.args.query.now.schema.now (state_asked c.args.query.now)
    c.args.recipe.now c.in_ok-node_relations.field-0.items c.requires.recipe
    c.in_ok-node_relations.ensures.nodes

pub returns-clause-nodes : goal.returns-clause-nodes
returns-clause-nodes g c =
    nodes_at c.args.query.now.task.now c.args.query.now.schema.now (state_asked c.args.query.now)
    (relations_with c.args.recipe.now.fixed c.in_ok-node_relations.field-0.items) c.requires.some
    (all_are c.args.query.now.task.now c.args.query.now.schema.now (state_asked c.args.query.now)
    c.args.recipe.now c.in_ok-node_relations.field-0.items
    (keeps_static c.args.query.now.task.now c.args.query.now.tables.now c.requires.query.tables)
    c.requires.recipe c.in_ok-node_relations.ensures.nodes)

pub returns-clause-few : goal.returns-clause-few
returns-clause-few g c = λ acyclic.
    nodes_few c.args.query.now.task.now c.args.query.now.schema.now c.args.query.now.tables.now
    (relations_with c.args.recipe.now.fixed c.in_ok-node_relations.field-0.items)
    (schema_of c.args.query.now.task.now c.args.query.now.number c.args.query.now.schema.now
    c.requires.query.found) c.requires.query.tables c.requires.some
    (c.in_ok-node_relations.ensures.core acyclic)
    (all_are c.args.query.now.task.now c.args.query.now.schema.now (state_asked c.args.query.now)
    c.args.recipe.now c.in_ok-node_relations.field-0.items
    (keeps_static c.args.query.now.task.now c.args.query.now.tables.now c.requires.query.tables)
    c.requires.recipe c.in_ok-node_relations.ensures.nodes)

pub returns-clause-cost : goal.returns-clause-cost
returns-clause-cost g c = λ acyclic.
    as_product c.args.form.now _ c.args.steps.now c.node_relations.new.steps _
    (ap length c.requires.form.local)
    (c.in_ok-node_relations.ensures.cost acyclic)
