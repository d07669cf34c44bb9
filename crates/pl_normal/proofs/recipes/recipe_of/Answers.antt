use Rattle.pl_normal.specs.Asked.{state_asked}
use Rattle.pl_normal.specs.declared.nodes.Share.TheVariants.{Fixed}
use Rattle.pl_normal.proofs.Asking.{keeps_static}
use Rattle.pl_normal.proofs.Handing.{fixed_are, recipe_made, some_edges}
use Rattle.pl_normal.proofs.recipes.recipe_of.Goals as goal

pub of-requires : goal.of-requires
of-requires g c =
    fixed_are c.args.query.now.task.now c.args.query.now.schema.now (state_asked c.args.query.now) Fixed
    c.args.form.now.plan c.in_ok-fixed.fixed.items c.requires.form.plan
    (some_edges c.args.query.now.schema.now c.args.form.now.edges c.as_slice.result.now c.is_empty.result
    c.as_slice.ensures c.requires.form.edges
    c.is_empty.ensures c.if-is_empty.false)
    c.in_ok-fixed.ensures.nodes

pub returns : goal.returns
returns g c =
    recipe_made c.args.query.now.task.now c.args.query.now.schema.now (state_asked c.args.query.now)
    c.args.form.now.plan c.in_ok-fixed.fixed.items c.in_ok-of.field-0
    (keeps_static c.args.query.now.task.now c.args.query.now.tables.now c.requires.query.tables)
    c.requires.form.plan
    (some_edges c.args.query.now.schema.now c.args.form.now.edges c.as_slice.result.now c.is_empty.result
    c.as_slice.ensures c.requires.form.edges
    c.is_empty.ensures c.if-is_empty.false)
    c.in_ok-fixed.ensures.nodes c.in_ok-of.ensures.recipe
