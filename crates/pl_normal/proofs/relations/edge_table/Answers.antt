use Rattle.std.proofs.Common.{length, ◌≡◌, ◌↔◌, ap, subst, ◌∙◌, ℕ, List, Contains, IsTrue}
use Rattle.pl_normal.specs.declared.form.Edge.{Edge}
use Rattle.pl_normal.specs.Asked.{state_asked}
use Rattle.pl_normal.specs.Queries.{edge_at}
use Rattle.pl_normal.specs.Query.{is_in_source}
use Rattle.pl_normal.proofs.Forms.{schema_of}
use Rattle.pl_normal.proofs.Relating.{edge_given, same_arity}
use Rattle.pl_normal.proofs.Sieving.{source_within, source_few}
use Rattle.pl_normal.proofs.relations.edge_table.Goals as goal

pub source_table-requires-clause-source : goal.source_table-requires-clause-source
source_table-requires-clause-source c =
    (edge_given c.args.query.now.task.now c.args.query.now.schema.now c.args.form.now.edges c.args.number
    c.edge_of.result.now
    (schema_of c.args.query.now.task.now c.args.query.now.number c.args.query.now.schema.now
    c.requires.query.found) c.requires.form.edges c.requires.number c.edge_of.ensures).from

pub returns-clause-width : goal.returns-clause-width
returns-clause-width c =
    let edge = edge_given c.args.query.now.task.now c.args.query.now.schema.now c.args.form.now.edges
    c.args.number c.edge_of.result.now
    (schema_of c.args.query.now.task.now c.args.query.now.number c.args.query.now.schema.now
    c.requires.query.found) c.requires.form.edges c.requires.number c.edge_of.ensures in
    subst (λ (x : Edge). length x.slots ≡ c.source_table.result.now.arity) c.edge_of.ensures
    (same_arity c.args.query.now.task.now c.args.query.now.schema.now c.edge_of.result.now.source
    (length c.edge_of.result.now.slots) c.source_table.result.now.arity edge.from edge.arity
    c.source_table.ensures.arity)

pub returns-clause-rows : goal.returns-clause-rows
returns-clause-rows c =
    subst (λ (x : Edge). (row : List ℕ) → Contains c.source_table.result.now.rows row
    ↔ IsTrue (is_in_source c.args.query.now.task.now c.args.query.now.schema.now
    (state_asked c.args.query.now) x.source row)) c.edge_of.ensures c.source_table.ensures.rows

pub returns-clause-objects : goal.returns-clause-objects
returns-clause-objects c =
    source_within c.args.query.now.task.now c.args.query.now.schema.now (state_asked c.args.query.now)
    c.args.number c.edge_of.result.now c.source_table.result.now
    (c.edge_of.ensures ∙ ap (λ xs. edge_at xs c.args.number) c.requires.form.edges)
    c.source_table.ensures.objects c.source_table.ensures.rows

pub returns-clause-few : goal.returns-clause-few
returns-clause-few c =
    let edge = edge_given c.args.query.now.task.now c.args.query.now.schema.now c.args.form.now.edges
    c.args.number c.edge_of.result.now
    (schema_of c.args.query.now.task.now c.args.query.now.number c.args.query.now.schema.now
    c.requires.query.found) c.requires.form.edges c.requires.number c.edge_of.ensures in
    source_few c.args.query.now.task.now c.args.query.now.schema.now (state_asked c.args.query.now)
    c.args.number c.edge_of.result.now c.source_table.result.now
    (c.edge_of.ensures ∙ ap (λ xs. edge_at xs c.args.number) c.requires.form.edges)
    c.source_table.ensures.objects c.source_table.ensures.rows
    (same_arity c.args.query.now.task.now c.args.query.now.schema.now c.edge_of.result.now.source
    (length c.edge_of.result.now.slots) c.source_table.result.now.arity edge.from edge.arity
    c.source_table.ensures.arity)
