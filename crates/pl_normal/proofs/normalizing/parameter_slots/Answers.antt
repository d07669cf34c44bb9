use Rattle.std.proofs.Common.{◌≡◌, ◌∙◌, ap, length, map}
use Rattle.std.proofs.lemmas.Result.{IfOk-weaker}
use Rattle.pl_normal.specs.Classes.{fixings, object_of}
use Rattle.pl_normal.specs.Slots.{class_slot, parameter_slots}
use Rattle.pl_normal.proofs.Forming.{fixings_fit, made_slots}
use Rattle.pl_normal.proofs.normalizing.parameter_slots.Goals as goal

pub class_slots-requires : goal.class_slots-requires
class_slots-requires c = fixings_fit c.args._task.now.predicates (length c.args._task.now.objects)
    c.args.schema.now c.args.classes.now c.as_slice-2.result.now c.requires.schema.literals
    c.requires.classes
    (c.as_slice-2.ensures.value ∙ (c.in_ok-found.ensures ∙ ap fixings c.as_slice.ensures))

pub returns : goal.returns
returns c = IfOk-weaker c.class_slots.result
    (λ v. v.items ≡ map
    (λ class. class_slot (object_of c.args.classes.now c.as_slice-2.result.now class) class)
    c.args.classes.now) (λ v. v.items ≡ parameter_slots c.args.schema.now)
    (λ v is. is ∙ made_slots c.args.schema.now c.args.classes.now c.as_slice-2.result.now c.requires.classes
    (c.as_slice-2.ensures.value ∙ (c.in_ok-found.ensures ∙ ap fixings c.as_slice.ensures)))
    c.class_slots.ensures
