use Rattle.std.proofs.Common.{sym, ap, ◌∙◌, subst, arith, length, take}
use Rattle.pl_task.specs.States.{IsStep}
use Rattle.pl_task.specs.declared.task.Task.{Task}
use Rattle.pl_gen.specs.Walks.{PreparedState, step_with}
use Rattle.pl_normal.proofs.Forms.{schema_of}
use Rattle.pl_gen.proofs.Stepping.{named_below, named_many, fixed_many, args_within, key_written, args_long}
use Rattle.pl_gen.proofs.Stepping.{key_compared}
use Rattle.pl_gen.proofs.prepared.Prepared.key_is_above.Goals as goal

pub write_args-requires-clause-classes : goal.write_args-requires-clause-classes
write_args-requires-clause-classes c =
    let is = schema_of c.args.self.now.task c.args.past.schema c.requires.schema c.requires.found in
    named_below c.args.self.now.task c.requires.schema c.form-form.result.now.class_of
    (length c.args.past.args.now) is (c.form-form.ensures c.requires.schema c.requires.found).class_of
    (let many = c.requires.many in omega (arith, many))

pub write_args-requires-clause-fixed : goal.write_args-requires-clause-fixed
write_args-requires-clause-fixed c =
    let form = c.form-form.ensures c.requires.schema c.requires.found in
    fixed_many c.requires.schema c.form-form.result.now.fixed c.form-form.result.now.class_of form.fixed
    form.class_of

pub write_args-requires-clause-few : goal.write_args-requires-clause-few
write_args-requires-clause-few c =
    let is = schema_of c.args.self.now.task c.args.past.schema c.requires.schema c.requires.found in
    let few = is.few_parameters in
    let many = named_many c.requires.schema c.form-form.result.now.class_of
    (c.form-form.ensures c.requires.schema c.requires.found).class_of in omega (arith, few, many)

pub slice_bounds-args-end : goal.slice_bounds-args-end
slice_bounds-args-end c =
    let is = schema_of c.args.self.now.task c.args.past.schema c.requires.schema c.requires.found in
    let few = is.few_parameters in
    let many = c.requires.many in
    let room = c.write_args.ensures.same in omega (arith, few, many, room)

pub slice_bounds-step-end : goal.slice_bounds-step-end
slice_bounds-step-end c =
    let is = schema_of c.args.self.now.task c.args.past.schema c.requires.schema c.requires.found in
    let form = c.form-form.ensures c.requires.schema c.requires.found in
    sym (ap length
    (key_written c.args.self.now.task c.requires.schema c.args.past.args.now
    c.form-form.result.now.class_of c.write_args.new.args is form.class_of c.requires.many
    (c.write_args.ensures.args c.args.self.now.task c.requires.schema form is.few_parameters))
    ∙ args_long c.requires.schema c.args.past.args.now c.requires.many)

pub step_cmp-requires-clause-b : goal.step_cmp-requires-clause-b
step_cmp-requires-clause-b c =
    let is = schema_of c.args.self.now.task c.args.past.schema c.requires.schema c.requires.found in
    let form = c.form-form.ensures c.requires.schema c.requires.found in
    subst (λ (t : Task). IsStep t
    (step_with c.args.past.schema (take (length c.args.past.args.now) c.write_args.new.args)))
    (sym (ap (λ (p : PreparedState). p.task) c.self.view_is))
    (subst (λ args. IsStep c.args.self.now.task (step_with c.args.past.schema args))
    (sym (key_written c.args.self.now.task c.requires.schema c.args.past.args.now
    c.form-form.result.now.class_of c.write_args.new.args is form.class_of c.requires.many
    (c.write_args.ensures.args c.args.self.now.task c.requires.schema form is.few_parameters)))
    (args_within c.args.self.now.task c.args.past.schema c.requires.schema c.args.past.args.now
    c.requires.found is c.requires.many c.requires.within))

pub returns : goal.returns
returns c s found =
    let is = schema_of c.args.self.now.task c.args.past.schema c.requires.schema c.requires.found in
    let form = c.form-form.ensures c.requires.schema c.requires.found in
    key_compared c.args.self.now.task c.self.inside.normal.now c.args.past.schema c.requires.schema s
    c.args.past.args.now (take (length c.args.past.args.now) c.write_args.new.args) c.is_lt.result
    c.step_cmp.result c.requires.found found
    (ap (λ (p : PreparedState). p.task) c.self.view_is)
    (key_written c.args.self.now.task c.requires.schema c.args.past.args.now c.form-form.result.now.class_of
    c.write_args.new.args is form.class_of c.requires.many
    (c.write_args.ensures.args c.args.self.now.task c.requires.schema form is.few_parameters))
    c.is_lt.ensures c.step_cmp.ensures
