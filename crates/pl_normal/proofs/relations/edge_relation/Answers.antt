use Rattle.std.proofs.Common.{length, ◌≡◌, ◌*◌, ◌<◌, sym, subst}
use Rattle.std.specs.List.{AllPairs}
use Rattle.std.proofs.lemmas.Result.{IfOk-weaker}
use Rattle.pl_join.specs.Relation.{ClassRows}
use Rattle.pl_normal.specs.Asked.{state_asked, source_rows}
use Rattle.pl_normal.proofs.Forms.{schema_of}
use Rattle.pl_normal.proofs.Relating.{first_sieved}
use Rattle.pl_normal.proofs.Sieving.{edge_taken}
use Rattle.pl_normal.proofs.relations.edge_relation.Goals as goal

pub passing_rows-requires-clause-selected : goal.passing_rows-requires-clause-selected
passing_rows-requires-clause-selected g c =
    first_sieved c.args.query.now.task.now c.args.query.now.schema.now (state_asked c.args.query.now)
    c.args.form.now.edges c.args.number c.edge_table-table.result.now.rows c.edge_slots-slots.result.now
    c.in_ok-selected.selected
    (schema_of c.args.query.now.task.now c.args.query.now.number c.args.query.now.schema.now
    c.requires.query.found) c.requires.form.edges c.requires.number
    c.edge_slots-slots.ensures.slots c.edge_table-table.ensures.rows
    c.in_ok-selected.ensures.classes.members c.in_ok-selected.ensures.rows

pub returns-clause-cost : goal.returns-clause-cost
returns-clause-cost g c = edge_taken c.passing_rows.result c.args.steps.now c.select.new.steps
    c.passing_rows.new.steps (length c.edge_table-table.result.now.rows)
    (source_rows c.args.query.now c.args.number)
    (length c.args.form.now.local * (2 * source_rows c.args.query.now c.args.number))
    c.in_ok-selected.ensures.cost c.edge_table-table.ensures.few c.passing_rows.ensures.cost

pub returns-clause-rising : goal.returns-clause-rising
returns-clause-rising g c =
    IfOk-weaker c.passing_rows.result (λ (r : ClassRows). r.classes ≡ c.in_ok-selected.selected.classes)
    (λ (r : ClassRows). AllPairs (λ a b. a < b) r.classes)
    (λ r same. subst (AllPairs (λ a b. a < b)) (sym same) c.in_ok-selected.ensures.classes.rising)
    c.passing_rows.ensures.classes
