use Rattle.std.proofs.Common.{◌<◌, length, subst}
use Rattle.pl_task.specs.declared.data.Schema.{Schema}
use Rattle.pl_normal.specs.Recipes.{IsRecipeFor}
use Rattle.pl_normal.specs.StateTables.{state_of_tables}
use Rattle.pl_reduce.specs.Recipes.{relations_with}
use Rattle.pl_normal.specs.Edges.{edges_of}
use Rattle.pl_gen.specs.Queries.{state_asked}
use Rattle.pl_gen.proofs.Asking.{tables_given, state_given, same_schema}
use Rattle.pl_gen.proofs.Tables.{tables_ok, tables_taken, if_ok}
use Rattle.pl_gen.proofs.entry.reduced_tables.Goals as goal

pub given_relations-requires-clause-recipe : goal.given_relations-requires-clause-recipe
given_relations-requires-clause-recipe g c = λ s at.
    subst (λ (x : Schema). IsRecipeFor c.args.query.now.normal.now x c.args.recipe.now)
    (same_schema c.args.query.now.normal.now c.args.query.now.number c.args.query.now.schema.now s
    c.requires.query.found at) c.requires.recipe

pub given_relations-requires-clause-edges : goal.given_relations-requires-clause-edges
given_relations-requires-clause-edges g c = λ s at.
    subst (λ (x : Schema). 0 < length (edges_of x)) (same_schema c.args.query.now.normal.now
    c.args.query.now.number c.args.query.now.schema.now s c.requires.query.found at) c.requires.some

pub given_relations-requires-clause-tables : goal.given_relations-requires-clause-tables
given_relations-requires-clause-tables g c =
    tables_given c.args.query.now.normal.now c.args.query.now.words.now c.args.query.now.tables.now
    c.as_slice-tables.result.now c.as_slice-tables.ensures c.requires.query.tables

pub returns-clause-tables : goal.returns-clause-tables
returns-clause-tables g c =
    tables_ok c.args.query.now.normal.now c.args.query.now.schema.now (state_asked c.args.query.now)
    (state_of_tables c.args.query.now.normal.now c.as_slice-tables.result.now) c.args.recipe.now
    (relations_with c.args.recipe.now.fixed c.in_ok-given.given.items) c.reduce_with.result
    c.requires.recipe (state_given c.args.query.now.normal.now c.args.query.now.words.now
    c.args.query.now.tables.now c.as_slice-tables.result.now c.as_slice-tables.ensures
    c.requires.query.tables)
    c.reduce_with.ensures.classes c.reduce_with.ensures.columns c.reduce_with.ensures.reduction
    (c.in_ok-given.ensures.nodes c.args.query.now.schema.now c.requires.query.found)

pub returns-clause-cost : goal.returns-clause-cost
returns-clause-cost g c =
    if_ok _ c.reduce_with.result (λ acyclic.
    tables_taken c.args.query.now.normal.now c.args.query.now.schema.now (state_asked c.args.query.now)
    (state_of_tables c.args.query.now.normal.now c.as_slice-tables.result.now) c.args.recipe.now
    c.in_ok-given.given.items
    c.args.steps.now c.given_relations.new.steps c.reduce_with.new.steps c.requires.recipe
    (state_given c.args.query.now.normal.now c.args.query.now.words.now c.args.query.now.tables.now
    c.as_slice-tables.result.now c.as_slice-tables.ensures c.requires.query.tables)
    c.requires.some c.in_ok-given.ensures.given (c.in_ok-given.ensures.few c.args.query.now.schema.now
    c.requires.query.found acyclic) (c.in_ok-given.ensures.cost c.args.query.now.schema.now
    c.requires.query.found acyclic) c.reduce_with.ensures.cost)
