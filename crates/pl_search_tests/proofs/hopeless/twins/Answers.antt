use Rattle.std.proofs.Common.{◌≡◌, [], ◌∷◌, length, ap, ◌∙◌, arith}
use Rattle.pl_task.specs.declared.data.Atom.{Atom}
use Rattle.pl_task.specs.declared.data.PredicateDef.{PredicateDef}
use Rattle.pl_task.specs.declared.data.Schema.{Schema}
use Rattle.pl_task.specs.declared.data.TypeDef.{TypeDef}
use Rattle.pl_task.specs.Atoms.{atom_of}
use Rattle.pl_samples.proofs.WellFormed.{objects_well}
use Rattle.pl_search_tests.specs.Twins.{bare, pair_definition, link_definition, twin_definitions, twin}
use Rattle.pl_search_tests.proofs.TwinLemmas.{twin_types, twin_predicates, twin_schemas, twin_init, no_goal}
use Rattle.pl_search_tests.proofs.hopeless.twins.Goals as goal

pub invariant_of-result : goal.invariant_of-result
invariant_of-result c =
    let types : c.of.result ≡ bare ∷ bare ∷ [] =
    c.of.ensures ∙ c.in_ok-types.ensures.items ∙ ap (λ (x : TypeDef). x ∷ c.a_type-2.result ∷ [])
    c.a_type.ensures ∙ ap (λ (x : TypeDef). bare ∷ x ∷ []) c.a_type-2.ensures in
    let objects : length c.of-2.result ≡ 3 = ap length c.of-2.ensures ∙ c.in_ok-objects.ensures.many in
    let predicates : c.of-3.result ≡ twin_definitions =
    c.of-3.ensures ∙ c.in_ok-predicates.ensures.items
    ∙ ap (λ (x : PredicateDef). x ∷ c.definition-link.result ∷ c.definition-mark.result ∷ [])
    c.definition-pair.ensures ∙
    ap (λ (x : PredicateDef). pair_definition ∷ x ∷ c.definition-mark.result ∷ []) c.definition-link.ensures
    ∙ ap (λ (x : PredicateDef). pair_definition ∷ link_definition ∷ x ∷ []) c.definition-mark.ensures in
    let schemas : c.of-4.result ≡ twin ∷ [] = c.of-4.ensures ∙ c.in_ok-schemas.ensures.items
    ∙ ap (λ (x : Schema). x ∷ []) c.in_ok-a_schema.ensures in
    let init : c.of-5.result ≡ atom_of 1 (0 ∷ 1 ∷ []) ∷ [] = c.of-5.ensures ∙ c.in_ok-init.ensures.items
    ∙ ap (λ (x : Atom). x ∷ []) c.in_ok-atom.ensures in
    record {
      types_ok = twin_types c.of.result types;
      objects_ok = rw c.of-2.ensures
          (objects_well c.of.result c.in_ok-objects.objects.items
          (omega (arith, c.in_ok-objects.ensures.many)) c.in_ok-objects.ensures.plain);
      predicates_ok = twin_predicates c.of-4.result c.of-3.result schemas predicates;
      schemas_ok = twin_schemas c.of.result c.of-2.result c.of-3.result c.of-4.result
          (omega (arith, ap length types)) schemas predicates;
      init_ok = twin_init c.of-2.result c.of-3.result c.of-5.result (omega arith) predicates init;
      goal_ok = no_goal c.of-2.result c.of-3.result c.of-6.result (c.of-6.ensures ∙ c.new.ensures.items);
    }
