use Rattle.std.proofs.Common.{length, ◌≡◌, ◌*◌, ap, ◌∙◌}
use Rattle.std.proofs.lemmas.Result.{IfOk-weaker}
use Rattle.pl_join.specs.Relation.{ClassRows, classes_in}
use Rattle.pl_normal.specs.Asked.{state_asked, source_rows}
use Rattle.pl_normal.specs.Queries.{edge_at}
use Rattle.pl_normal.proofs.Forms.{schema_of}
use Rattle.pl_normal.proofs.OrderedEdges.{order_once, order_holds, ordered_members}
use Rattle.pl_normal.proofs.Relating.{first_sieved}
use Rattle.pl_normal.proofs.Sieving.{edge_taken}
use Rattle.pl_normal.proofs.relations.ordered_relation.Goals as goal

pub select_in_order-requires-clause-distinct : goal.select_in_order-requires-clause-distinct
select_in_order-requires-clause-distinct g c =
    order_once c.args.query.now.schema.now c.as_slice-order.result.now
    (c.as_slice-order.ensures ∙ c.requires.form.order)

pub select_in_order-requires-clause-held : goal.select_in_order-requires-clause-held
select_in_order-requires-clause-held g c =
    order_holds c.args.query.now.task.now c.args.query.now.schema.now c.as_slice-order.result.now
    c.args.form.now.edges c.args.number c.edge_slots-slots.result.now
    (schema_of c.args.query.now.task.now c.args.query.now.number c.args.query.now.schema.now
    c.requires.query.found) (c.as_slice-order.ensures ∙ c.requires.form.order) c.requires.form.edges
    c.requires.number c.edge_slots-slots.ensures.slots

pub passing_rows-requires-clause-selected : goal.passing_rows-requires-clause-selected
passing_rows-requires-clause-selected g c =
    first_sieved c.args.query.now.task.now c.args.query.now.schema.now (state_asked c.args.query.now)
    c.args.form.now.edges c.args.number c.edge_table-table.result.now.rows c.edge_slots-slots.result.now
    c.in_ok-selected.selected
    (schema_of c.args.query.now.task.now c.args.query.now.number c.args.query.now.schema.now
    c.requires.query.found) c.requires.form.edges c.requires.number
    c.edge_slots-slots.ensures.slots c.edge_table-table.ensures.rows
    (ordered_members c.as_slice-order.result.now c.edge_slots-slots.result.now c.in_ok-selected.selected
    c.in_ok-selected.ensures.classes
    (order_holds c.args.query.now.task.now c.args.query.now.schema.now c.as_slice-order.result.now
    c.args.form.now.edges c.args.number c.edge_slots-slots.result.now
    (schema_of c.args.query.now.task.now c.args.query.now.number c.args.query.now.schema.now
    c.requires.query.found) (c.as_slice-order.ensures ∙ c.requires.form.order) c.requires.form.edges
    c.requires.number c.edge_slots-slots.ensures.slots))
    c.in_ok-selected.ensures.rows

pub returns-clause-cost : goal.returns-clause-cost
returns-clause-cost g c = edge_taken c.passing_rows.result c.args.steps.now c.select_in_order.new.steps
    c.passing_rows.new.steps (length c.edge_table-table.result.now.rows)
    (source_rows c.args.query.now c.args.number)
    (length c.args.form.now.local * (2 * source_rows c.args.query.now c.args.number))
    c.in_ok-selected.ensures.cost c.edge_table-table.ensures.few c.passing_rows.ensures.cost

pub returns-clause-classes : goal.returns-clause-classes
returns-clause-classes g c =
    IfOk-weaker c.passing_rows.result (λ (r : ClassRows). r.classes ≡ c.in_ok-selected.selected.classes)
    (λ (r : ClassRows). r.classes ≡ classes_in c.args.form.now.order
    (edge_at c.args.form.now.edges c.args.number).slots)
    (λ r same. same ∙ (c.in_ok-selected.ensures.classes
    ∙ (ap (λ order. classes_in order c.edge_slots-slots.result.now) c.as_slice-order.ensures
    ∙ ap (classes_in c.args.form.now.order)
    c.edge_slots-slots.ensures.slots)))
    c.passing_rows.ensures.classes
