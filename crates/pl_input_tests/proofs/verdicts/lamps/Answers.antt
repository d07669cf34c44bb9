use Rattle.std.proofs.Common.{◌≡◌, true, false, [], ◌∷◌, length, ap, ◌∙◌, arith}
use Rattle.pl_input_tests.specs.Lamps.{on_definition, light, pass}
use Rattle.pl_input_tests.proofs.LampLemmas.{types_well, objects_well, predicates_well, schemas_well}
use Rattle.pl_input_tests.proofs.LampLemmas.{goal_well}
use Rattle.pl_input_tests.proofs.verdicts.lamps.Goals as goal

pub invariant_of-result : goal.invariant_of-result
invariant_of-result c =
    let types = c.of-4.ensures ∙ c.in_ok-types.ensures.items in
    let objects : length c.of-5.result ≡ c.args.count = ap length c.of-5.ensures ∙
    c.in_ok-objects.ensures.many in
    let predicates : c.of-6.result ≡ on_definition ∷ [] =
    c.of-6.ensures ∙ c.in_ok-predicates.ensures.items ∙
    ap (λ n. record { name = n; arity = 1; is_static = false } ∷ [])
    (c.of.ensures ∙ c.new.ensures.items) in
    let schemas : c.of-7.result ≡ light ∷ pass ∷ [] =
    cc (
      c.of-7.ensures,
      c.in_ok-schemas.ensures.items,
      c.in_ok-to_light.ensures,
      c.in_ok-to_pass.ensures,
    ) in
    let goal : c.of-9.result ≡ record { atom = record { predicate = 0; objects = 1 ∷ [] }; wanted = true } ∷
    record { atom = record { predicate = 0; objects = 0 ∷ [] }; wanted = false } ∷ [] =
    cc (c.of-9.ensures, c.in_ok-goal.ensures.items, c.in_ok-wanted.ensures, c.in_ok-wanted-2.ensures) in
    record {
      types_ok = types_well c.of-4.result _ types (c.of-3.ensures ∙ c.new-3.ensures.items);
      objects_ok = rw c.of-5.ensures (objects_well c.of-4.result c.in_ok-objects.objects.items
          (omega (arith, c.in_ok-objects.ensures.many)) c.in_ok-objects.ensures.plain);
      predicates_ok = predicates_well c.of-7.result c.of-6.result schemas predicates;
      schemas_ok = schemas_well c.of-4.result c.of-5.result c.of-6.result c.of-7.result
          (omega (arith, ap length types)) schemas predicates;
      init_ok = rw (c.of-8.ensures, c.new-4.ensures.items) (record {
        each = λ k d h. absurd (omega arith);
        distinct = λ i j d h k. absurd (omega arith);
      });
      goal_ok = goal_well c.of-5.result c.of-6.result c.of-9.result (omega arith) predicates goal;
    }
