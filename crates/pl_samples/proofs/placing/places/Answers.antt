use Rattle.std.proofs.Common.{◌≡◌, [], ◌∷◌, length, ap, ◌∙◌, arith}
use Rattle.pl_task.specs.declared.data.Atom.{Atom}
use Rattle.pl_task.specs.declared.data.PredicateDef.{PredicateDef}
use Rattle.pl_task.specs.declared.data.Schema.{Schema}
use Rattle.pl_task.specs.Atoms.{atom_of}
use Rattle.pl_samples.specs.Places.{at_definition, link_definition, definitions, hop, finish}
use Rattle.pl_samples.specs.Places.{schemas_of_places}
use Rattle.pl_samples.proofs.WellFormed.{types_well, objects_well, predicates_well, schemas_well, init_well}
use Rattle.pl_samples.proofs.WellFormed.{goal_well}
use Rattle.pl_samples.proofs.placing.places.Goals as goal

pub invariant_of-result : goal.invariant_of-result
invariant_of-result c =
    let types = c.of-3.ensures ∙ c.in_ok-types.ensures.items in
    let objects : length c.of-4.result ≡ c.args.count =
    ap length c.of-4.ensures ∙ c.in_ok-objects.ensures.many in
    let predicates : c.of-5.result ≡ definitions =
    c.of-5.ensures ∙ c.in_ok-predicates.ensures.items ∙
    ap (λ (x : PredicateDef). x ∷ c.definition-link.result ∷ c.definition-done.result ∷ [])
    c.definition-at.ensures ∙
    ap (λ (x : PredicateDef). at_definition ∷ x ∷ c.definition-done.result ∷ []) c.definition-link.ensures ∙
    ap (λ (x : PredicateDef). at_definition ∷ link_definition ∷ x ∷ []) c.definition-done.ensures in
    let schemas : c.of-6.result ≡ schemas_of_places =
    c.of-6.ensures ∙ c.in_ok-schemas.ensures.items ∙
    ap (λ (x : Schema). x ∷ c.in_ok-to_finish.field-0 ∷ c.in_ok-to_spread.field-0 ∷ []) c.in_ok-to_hop.ensures
    ∙
    ap (λ (x : Schema). hop ∷ x ∷ c.in_ok-to_spread.field-0 ∷ []) c.in_ok-to_finish.ensures ∙
    ap (λ (x : Schema). hop ∷ finish ∷ x ∷ []) c.in_ok-to_spread.ensures in
    let init : c.of-7.result ≡ atom_of 1 (0 ∷ 1 ∷ []) ∷ [] =
    c.of-7.ensures ∙ c.in_ok-init.ensures.items ∙ ap (λ (x : Atom). x ∷ []) c.in_ok-atom.ensures in
    record {
      types_ok = types_well c.of-3.result _ types (c.of-2.ensures ∙ c.new-2.ensures.items);
      objects_ok = rw c.of-4.ensures
          (objects_well c.of-3.result c.in_ok-objects.objects.items
          (omega (arith, c.in_ok-objects.ensures.many)) c.in_ok-objects.ensures.plain);
      predicates_ok = predicates_well c.of-6.result c.of-5.result schemas predicates;
      schemas_ok = schemas_well c.of-3.result c.of-4.result c.of-5.result c.of-6.result
          (omega (arith, ap length types)) schemas predicates;
      init_ok = init_well c.of-4.result c.of-5.result c.of-7.result (omega arith) predicates init;
      goal_ok = goal_well c.of-4.result c.of-5.result c.of-8.result c.args.back (omega arith) predicates
          (c.of-8.ensures ∙ c.in_ok-goal.ensures);
    }
