use Rattle.std.proofs.Common.{refl}
use Rattle.pl_task.proofs.TypeLemmas.{has_object, type_answer}
use Rattle.pl_task.proofs.task.Task.has_type.Goals as goal

pub returns-then-type_number-eq0 : goal.returns-then-type_number-eq0
returns-then-type_number-eq0 c = (
  (λ _. has_object c.args.self.now c.args.object c.args.type_number c.requires.object
      c.if-type_number-eq0.true),
  (λ _. refl),
)

pub returns : goal.returns
returns c =
    type_answer c.args.self.now c.args.object c.args.type_number c.as_slice.result.now
    c.as_slice-2.result.now c.as_slice-3.result.now
    c.index-as_slice-object.result c.is_reached.result c.as_slice.ensures
    c.as_slice-2.ensures c.as_slice-3.ensures
    c.requires.object c.if-type_number-eq0.false c.index-as_slice-object.is c.is_reached.ensures
