use Rattle.std.proofs.Common.{arith}
use Rattle.pl_input_tests.proofs.tasks.typed_task.Goals as goal

pub invariant_of-result : goal.invariant_of-result
invariant_of-result c = record {
  types_ok = rw c.of.ensures c.requires.types;
  objects_ok = rw (c.of.ensures, c.of-2.ensures) (record { many = omega arith; typed = c.requires.objects });
  predicates_ok = rw (c.of-3.ensures, c.new.ensures.items)
      (record { many = omega arith; narrow = λ k d h. absurd (omega arith); static = λ p d h. cc });
  schemas_ok = rw (c.of-4.ensures, c.new-2.ensures.items)
      (record { many = omega arith; each = λ k d h. absurd (omega arith) });
  init_ok = rw (c.of-5.ensures, c.new-3.ensures.items) (record {
    each = λ k d h. absurd (omega arith);
    distinct = λ i j d h k. absurd (omega arith);
  });
  goal_ok = rw (c.of-6.ensures, c.new-4.ensures.items)
      (record { many = omega arith; each = λ k d h. absurd (omega arith) });
}
