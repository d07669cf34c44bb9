use Rattle.std.proofs.Common.{sym, ap, ◌≤◌, ◌+◌, ◌∙◌, length, take, subst}
use Rattle.std.specs.List.{list_all}
use Rattle.std.specs.Prelude.{slice_index}
use Rattle.pl_normal.specs.Query.{meets_sieve}
use Rattle.pl_normal.proofs.Forms.{schema_of, late_are}
use Rattle.pl_gen.specs.Queries.{state_asked}
use Rattle.pl_gen.proofs.Stepping.{front_of_order, all_classes_below, classes_distinct, agree_along, late_is}
use Rattle.pl_gen.proofs.turn.passes_row.Goals as goal

pub slice_bounds-write_values-end : goal.slice_bounds-write_values-end
slice_bounds-write_values-end g c = c.requires.row ∙ ap length
    (sym (front_of_order c.args.query.now.schema.now c.as_slice-order.result.now c.args.row.now
    (c.as_slice-order.ensures ∙ c.requires.form.order) c.requires.row))

pub write_values-requires-clause-below : goal.write_values-requires-clause-below
write_values-requires-clause-below g c =
    all_classes_below c.args.query.now.normal.now c.args.query.now.schema.now
    (take (length c.args.row.now) c.as_slice-order.result.now) (length c.args.values.now)
    (schema_of c.args.query.now.normal.now c.args.query.now.number c.args.query.now.schema.now
    c.requires.query.found)
    (front_of_order c.args.query.now.schema.now c.as_slice-order.result.now c.args.row.now
    (c.as_slice-order.ensures ∙ c.requires.form.order) c.requires.row)
    c.requires.values

pub write_values-requires-clause-distinct : goal.write_values-requires-clause-distinct
write_values-requires-clause-distinct g c =
    classes_distinct c.args.query.now.schema.now (take (length c.args.row.now) c.as_slice-order.result.now)
    (front_of_order c.args.query.now.schema.now c.as_slice-order.result.now c.args.row.now
    (c.as_slice-order.ensures ∙ c.requires.form.order) c.requires.row)

pub write_values-requires-clause-row : goal.write_values-requires-clause-row
write_values-requires-clause-row g c = c.requires.row ∙ ap length
    (sym (front_of_order c.args.query.now.schema.now c.as_slice-order.result.now c.args.row.now
    (c.as_slice-order.ensures ∙ c.requires.form.order) c.requires.row))

pub passes_all-requires-clause-sieves : goal.passes_all-requires-clause-sieves
passes_all-requires-clause-sieves g c =
    late_are c.args.query.now.normal.now c.args.query.now.schema.now c.as_slice.result.now
    (schema_of c.args.query.now.normal.now c.args.query.now.number c.args.query.now.schema.now
    c.requires.query.found)
    (c.as_slice.ensures ∙ c.requires.form.late)

pub returns-clause-agree : goal.returns-clause-agree
returns-clause-agree g c =
    agree_along c.args.query.now.schema.now
    (take (length c.args.row.now) c.as_slice-order.result.now) c.args.row.now c.write_values.new.values
    (front_of_order c.args.query.now.schema.now c.as_slice-order.result.now c.args.row.now
    (c.as_slice-order.ensures ∙ c.requires.form.order) c.requires.row) c.write_values.ensures.values

pub returns-clause-passes : goal.returns-clause-passes
returns-clause-passes g c =
    let agree = agree_along c.args.query.now.schema.now
    (take (length c.args.row.now) c.as_slice-order.result.now) c.args.row.now c.write_values.new.values
    (front_of_order c.args.query.now.schema.now c.as_slice-order.result.now c.args.row.now
    (c.as_slice-order.ensures ∙ c.requires.form.order) c.requires.row) c.write_values.ensures.values in
    c.passes_all.ensures.passes
    ∙ (ap (list_all (meets_sieve (state_asked c.args.query.now) (slice_index c.write_values.new.values)))
    (c.as_slice.ensures ∙ c.requires.form.late)
    ∙ late_is c.args.query.now.normal.now c.args.query.now.number c.args.query.now.schema.now
    (state_asked c.args.query.now) c.write_values.new.values c.args.row.now c.requires.query.found agree)

pub returns-clause-cost : goal.returns-clause-cost
returns-clause-cost g c =
    subst (λ xs. c.passes_all.new.steps ≤ c.args.steps.now + length xs)
    (c.as_slice.ensures ∙ c.requires.form.late) c.passes_all.ensures.cost
