use Rattle.std.proofs.Common.{◌∷◌, [], ◌++◌, ap, sym, ◌∙◌, append_assoc}
use Rattle.std.specs.List.{filter_map}
use Rattle.std.proofs.lemmas.List.Elements.{filter_map-append}
use Rattle.pl_check.specs.Literals.{added, deleted}
use Rattle.pl_check.proofs.effects.effect_of.Goals as goal

pub loop-literal-preserved : goal.loop-literal-preserved
loop-literal-preserved c = (
  c.in_ok-add_effect.ensures.delete ∙ ap (λ l. l ++ filter_map deleted (c.in-Some.literal ∷ []))
      c.loop-literal.invariant.0 ∙
      sym (filter_map-append deleted c.loop-literal.yielded (c.in-Some.literal ∷ [])),
  c.in_ok-add_effect.ensures.add ∙ ap (λ l. l ++ filter_map added (c.in-Some.literal ∷ []))
      c.loop-literal.invariant.1 ∙
      sym (filter_map-append added c.loop-literal.yielded (c.in-Some.literal ∷ [])),
  append_assoc c.loop-literal.yielded (c.in-Some.literal ∷ []) c.next.new.self.rest.items ∙
      ap (λ rest. c.loop-literal.yielded ++ rest) (sym c.in-Some.ensures.steps.0) ∙
      c.loop-literal.invariant.2,
)
