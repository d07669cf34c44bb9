use Rattle.std.proofs.Common.{◌≡◌, [], ◌∷◌, ◌∙◌}
use Rattle.pl_samples.proofs.WellFormed.{types_well}
use Rattle.pl_search_tests.specs.Marks.{mark_definitions, makers}
use Rattle.pl_search_tests.proofs.MarkLemmas.{objects_well, predicates_well, schemas_well, init_well}
use Rattle.pl_search_tests.proofs.MarkLemmas.{goal_well}
use Rattle.pl_search_tests.proofs.widths.marks.Goals as goal

pub invariant_of-result : goal.invariant_of-result
invariant_of-result c =
    let types = c.of-3.ensures ∙ c.in_ok-types.ensures.items in
    let predicates : c.of-5.result ≡ mark_definitions =
    c.of-5.ensures ∙ c.in_ok-predicates.ensures.items
    ∙ (λ i. c.definition.ensures i ∷ c.definition-2.ensures i ∷ c.definition-3.ensures i ∷ []) in
    let schemas : c.of-6.result ≡ makers =
    c.of-6.ensures ∙ c.in_ok-schemas.ensures.items
    ∙ (λ i. c.in_ok-maker.ensures i ∷ c.in_ok-maker-2.ensures i ∷ c.in_ok-maker-3.ensures i ∷ []) in
    record {
      types_ok = types_well c.of-3.result _ types (c.of-2.ensures ∙ c.new-2.ensures.items);
      objects_ok = objects_well c.of-3.result c.of-4.result (c.of-4.ensures ∙ c.new-3.ensures.items);
      predicates_ok = predicates_well c.of-6.result c.of-5.result schemas predicates;
      schemas_ok = schemas_well c.of-3.result c.of-4.result c.of-5.result c.of-6.result schemas predicates;
      init_ok = init_well c.of-4.result c.of-5.result c.of-7.result (c.of-7.ensures ∙ c.new-4.ensures.items);
      goal_ok = goal_well c.of-4.result c.of-5.result c.of-8.result c.literal.result c.literal-2.result
          c.literal-3.result predicates (c.of-8.ensures ∙ c.in_ok-goal.ensures.items)
          c.literal.ensures c.literal-2.ensures c.literal-3.ensures;
    }
