use Rattle.std.proofs.Common.{◌∷◌, [], ◌++◌, ap, sym, ◌∙◌, append_assoc}
use Rattle.std.specs.List.{filter_map}
use Rattle.std.proofs.lemmas.List.Elements.{filter_map-append}
use Rattle.pl_check.specs.Literals.{wanted}
use Rattle.pl_check.proofs.effects.goal_of.Goals as goal

pub loop-literal-preserved : goal.loop-literal-preserved
loop-literal-preserved c = (
  c.in_ok-add_goal.ensures ∙ ap (λ l. l ++ filter_map wanted (c.in-Some.literal ∷ []))
      c.loop-literal.invariant.0 ∙
      sym (filter_map-append wanted c.loop-literal.yielded (c.in-Some.literal ∷ [])),
  append_assoc c.loop-literal.yielded (c.in-Some.literal ∷ []) c.next.new.self.rest.items ∙
      ap (λ rest. c.loop-literal.yielded ++ rest) (sym c.in-Some.ensures.steps.0) ∙
      c.loop-literal.invariant.1,
)
