-- The schema of a walk without a fault.
use Rattle.pl_check.specs.Elements.{trees}
use Rattle.pl_check.proofs.ActionLemmas.{scope_is, action_is}
use Rattle.pl_check.proofs.actions.read_action.Goals as goal

pub returns-in-Ok-schema_of : goal.returns-in-Ok-schema_of
returns-in-Ok-schema_of c =
    action_is c.args.text.now c.args.known.now c.args.name.now (trees c.args.pairs.now)
    (trees c.parameter_forms-parameters.result.now) _ c.in-Ok-read_pairs.values.condition.items
    c.in-Ok-read_pairs.values.effect.items _
    (scope_is c.args.text.now c.args.known.now _ _ _ c.parameter_forms-parameters.ensures.forms
    c.in-Ok.ensures)
    c.parameter_forms-parameters.ensures.forms c.in-Ok-read_pairs.ensures.0 c.in-Ok-read_pairs.ensures.1.0
    c.in-Ok-read_pairs.ensures.1.1 c.in-Ok-schema_of.ensures
