use Rattle.std.proofs.Common.{◌++◌, ◌∙◌, ap, sym, length, arith}
use Rattle.pl_hyper.specs.ClassOrder.{class_order}
use Rattle.pl_normal.specs.Edges.{type_edges, atom_edges}
use Rattle.pl_normal.specs.Guards.{type_guards, literal_guards}
use Rattle.pl_normal.specs.Filters.{sieves_of, local_among, late_among}
use Rattle.pl_normal.specs.ParameterOrder.{then_others}
use Rattle.pl_normal.proofs.Forming.{literals_below, slots_many, slots_few}
use Rattle.pl_normal.proofs.Forming.{slots_below, slots_within, literals_at, literals_below_at, edges_few}
use Rattle.pl_normal.proofs.Forming.{form_is}
use Rattle.pl_normal.proofs.normalizing.normal_schema.Goals as goal

pub parameter_classes-requires-clause-literals : goal.parameter_classes-requires-clause-literals
parameter_classes-requires-clause-literals c = literals_below c.args.task.now.predicates
    (length c.args.task.now.objects) (length c.args.schema.now.parameters) c.args.schema.now.condition
    c.requires.schema.literals

pub edges-requires-clause-few : goal.edges-requires-clause-few
edges-requires-clause-few c = slots_few c.args.schema.now c.as_slice-slots.result.now
    c.requires.schema.few_parameters (c.as_slice-slots.ensures.value ∙ c.in_ok-made.ensures)

pub edges-requires-clause-slots : goal.edges-requires-clause-slots
edges-requires-clause-slots c = slots_below c.args.schema.now c.as_slice-slots.result.now
    c.requires.schema.few_parameters (c.as_slice-slots.ensures.value ∙ c.in_ok-made.ensures)

pub edges-requires-clause-literals : goal.edges-requires-clause-literals
edges-requires-clause-literals c = literals_below_at c.args.task.now.predicates
    (length c.args.task.now.objects) (length c.args.schema.now.parameters)
    (length c.as_slice-slots.result.now) c.as_slice-condition.result.now c.args.schema.now.condition
    (slots_many c.args.schema.now c.as_slice-slots.result.now
    (c.as_slice-slots.ensures.value ∙ c.in_ok-made.ensures))
    c.as_slice-condition.ensures c.requires.schema.literals

pub guards-requires-clause-many : goal.guards-requires-clause-many
guards-requires-clause-many c =
    (slots_many c.args.schema.now c.as_slice-slots.result.now
    (c.as_slice-slots.ensures.value ∙ c.in_ok-made.ensures))
    ∙ sym (ap length c.as_slice-parameters.ensures)

pub guards-requires-clause-slots : goal.guards-requires-clause-slots
guards-requires-clause-slots c = slots_within c.args.task.now.predicates
    (length c.args.task.now.objects) c.args.schema.now c.as_slice-slots.result.now c.requires.schema.literals
    (c.as_slice-slots.ensures.value ∙ c.in_ok-made.ensures)

pub guards-requires-clause-literals : goal.guards-requires-clause-literals
guards-requires-clause-literals c = literals_at c.args.task.now.predicates (length c.args.task.now.objects)
    (length c.args.schema.now.parameters) (length c.as_slice-slots.result.now) c.as_slice-condition.result.now
    c.args.schema.now.condition
    (slots_many c.args.schema.now c.as_slice-slots.result.now
    (c.as_slice-slots.ensures.value ∙ c.in_ok-made.ensures))
    c.as_slice-condition.ensures c.requires.schema.literals

pub filters-requires-clause-few : goal.filters-requires-clause-few
filters-requires-clause-few c = edges_few c.as_slice-slots.result.now c.as_slice-condition.result.now
    c.as_slice-all.result.now
    (slots_few c.args.schema.now c.as_slice-slots.result.now c.requires.schema.few_parameters
    (c.as_slice-slots.ensures.value ∙ c.in_ok-made.ensures))
    (omega (arith, ap length c.as_slice-condition.ensures, c.requires.schema.few_literals))
    (c.as_slice-all.ensures.value ∙ c.in_ok-edges.ensures)

pub filters-requires-clause-slots : goal.filters-requires-clause-slots
filters-requires-clause-slots c = slots_below c.args.schema.now c.as_slice-slots.result.now
    c.requires.schema.few_parameters (c.as_slice-slots.ensures.value ∙ c.in_ok-made.ensures)

pub filters-requires-clause-literals : goal.filters-requires-clause-literals
filters-requires-clause-literals c = literals_below_at c.args.task.now.predicates
    (length c.args.task.now.objects) (length c.args.schema.now.parameters)
    (length c.as_slice-slots.result.now) c.as_slice-condition.result.now c.args.schema.now.condition
    (slots_many c.args.schema.now c.as_slice-slots.result.now
    (c.as_slice-slots.ensures.value ∙ c.in_ok-made.ensures))
    c.as_slice-condition.ensures c.requires.schema.literals

pub plan_of-requires : goal.plan_of-requires
plan_of-requires c = edges_few c.as_slice-slots.result.now c.as_slice-condition.result.now
    c.as_slice-all.result.now
    (slots_few c.args.schema.now c.as_slice-slots.result.now c.requires.schema.few_parameters
    (c.as_slice-slots.ensures.value ∙ c.in_ok-made.ensures))
    (omega (arith, ap length c.as_slice-condition.ensures, c.requires.schema.few_literals))
    (c.as_slice-all.ensures.value ∙ c.in_ok-edges.ensures)

pub returns : goal.returns
returns c = form_is c.args.task.now c.args.schema.now _ c.as_slice-slots.result.now c.as_slice-all.result.now
    (c.as_slice-slots.ensures.value ∙ c.in_ok-made.ensures)
    (c.of.ensures ∙ c.in_ok-classes.ensures) (c.of-2.ensures ∙ c.in_ok-fixed.ensures)
    (c.of-3.ensures ∙ sym c.as_slice-all.ensures.value)
    ((c.as_slice-all.ensures.value ∙ c.in_ok-edges.ensures)
    ∙ ap (λ xs. type_edges c.as_slice-slots.result.now ++ atom_edges c.as_slice-slots.result.now xs)
    c.as_slice-condition.ensures)
    (c.of-4.ensures
    ∙ (c.in_ok-guards.ensures
    ∙ (λ i. type_guards c.args.task.now (c.as_slice-parameters.ensures i) c.as_slice-slots.result.now
    ++ literal_guards c.args.task.now c.as_slice-slots.result.now (c.as_slice-condition.ensures i))))
    (c.of-5.ensures
    ∙ (c.in_ok-filters.ensures.local
    ∙ ap (λ xs. local_among c.as_slice-all.result.now (sieves_of c.as_slice-slots.result.now xs))
    c.as_slice-condition.ensures))
    (c.of-6.ensures
    ∙ (c.in_ok-filters.ensures.late
    ∙ ap (λ xs. late_among c.as_slice-all.result.now (sieves_of c.as_slice-slots.result.now xs))
    c.as_slice-condition.ensures))
    c.in_ok-plan.ensures
    (c.of-7.ensures
    ∙ (c.in_ok-order.ensures ∙ ap (λ xs. then_others (length xs) (class_order c.in_ok-plan.plan))
    c.as_slice-parameters.ensures))
