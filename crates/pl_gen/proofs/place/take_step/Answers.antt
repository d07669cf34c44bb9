use Rattle.std.proofs.Common.{◌≤◌, refl, sym, ap, ◌∙◌, subst, arith, length, take}
use Rattle.pl_normal.proofs.Forms.{schema_of}
use Rattle.pl_gen.proofs.Stepping.{named_below, named_many, fixed_many, step_taken, found_along, turn_along}
use Rattle.pl_gen.proofs.place.take_step.Goals as goal

pub write_args-requires-clause-classes : goal.write_args-requires-clause-classes
write_args-requires-clause-classes g c =
    let found = found_along c.query-query.result c.args.prepared.now c.args.place.now.number
    c.query-query.ensures.query c.query-query.ensures.task c.query-query.ensures.number in
    let is = schema_of c.args.prepared.now.task c.args.place.now.number c.query-query.result.schema.now
    found in
    let few = is.few_parameters in
    named_below c.args.prepared.now.task c.query-query.result.schema.now c.form-form.result.now.class_of
    (length c.next_values.new.values) is
    (c.form-form.ensures c.query-query.result.schema.now found).class_of
    (subst (λ n. length c.query-query.result.schema.now.parameters ≤ n)
    (sym c.next_values.ensures.values) few)

pub write_args-requires-clause-fixed : goal.write_args-requires-clause-fixed
write_args-requires-clause-fixed g c =
    let found = found_along c.query-query.result c.args.prepared.now c.args.place.now.number
    c.query-query.ensures.query c.query-query.ensures.task c.query-query.ensures.number in
    let form = c.form-form.ensures c.query-query.result.schema.now found in
    fixed_many c.query-query.result.schema.now c.form-form.result.now.fixed c.form-form.result.now.class_of
    form.fixed form.class_of

pub write_args-requires-clause-few : goal.write_args-requires-clause-few
write_args-requires-clause-few g c =
    let found = found_along c.query-query.result c.args.prepared.now c.args.place.now.number
    c.query-query.ensures.query c.query-query.ensures.task c.query-query.ensures.number in
    let is = schema_of c.args.prepared.now.task c.args.place.now.number c.query-query.result.schema.now
    found in
    let few = is.few_parameters in
    let many = named_many c.query-query.result.schema.now c.form-form.result.now.class_of
    (c.form-form.ensures c.query-query.result.schema.now found).class_of in omega (arith, few, many)

pub overflow_cast-place : goal.overflow_cast-place
overflow_cast-place g c =
    let found = found_along c.query-query.result c.args.prepared.now c.args.place.now.number
    c.query-query.ensures.query c.query-query.ensures.task c.query-query.ensures.number in
    let is = schema_of c.args.prepared.now.task c.args.place.now.number c.query-query.result.schema.now
    found in
    let few = is.few_parameters in
    let many = named_many c.query-query.result.schema.now c.form-form.result.now.class_of
    (c.form-form.ensures c.query-query.result.schema.now found).class_of in
    let same = ap length c.as_slice.ensures in omega (arith, few, many, same)

pub returns-clause-takes : goal.returns-clause-takes
returns-clause-takes g c =
    let found = found_along c.query-query.result c.args.prepared.now c.args.place.now.number
    c.query-query.ensures.query c.query-query.ensures.task c.query-query.ensures.number in
    let is = schema_of c.args.prepared.now.task c.args.place.now.number c.query-query.result.schema.now
    found in
    let form = c.form-form.ensures c.query-query.result.schema.now found in (
      step_taken c.args.prepared.now c.query-query.result c.args.place.now.number
          (length c.as_slice.result.now) c.next_values.new.values c.write_args.new.args c.args.place.now.turn
          c.next_values.new.turn
          found c.query-query.ensures.task c.query-query.ensures.words c.query-query.ensures.number
          (ap (λ xs. take (length xs) c.write_args.new.args) c.as_slice.ensures
          ∙ c.write_args.ensures.args c.args.prepared.now.task c.query-query.result.schema.now form
          is.few_parameters) c.if-not-next_values.ensures.next,
      refl,
    )

pub returns-clause-place : goal.returns-clause-place
returns-clause-place g c =
    let found = found_along c.query-query.result c.args.prepared.now c.args.place.now.number
    c.query-query.ensures.query c.query-query.ensures.task c.query-query.ensures.number in
    let is = schema_of c.args.prepared.now.task c.args.place.now.number c.query-query.result.schema.now
    found in
    let few = is.few_parameters in
    let many = named_many c.query-query.result.schema.now c.form-form.result.now.class_of
    (c.form-form.ensures c.query-query.result.schema.now found).class_of in
    let same = ap length c.as_slice.ensures in record {
      turn = turn_along c.query-query.result c.args.prepared.now c.args.place.now.number
          c.next_values.new.turn c.query-query.ensures.task c.query-query.ensures.number
          c.next_values.ensures.turn;
      number = c.requires.place.number;
      values = c.next_values.ensures.values;
      args = c.write_args.ensures.same;
      len = omega (arith, few, many, same);
    }
