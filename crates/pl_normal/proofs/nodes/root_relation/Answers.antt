use Rattle.std.proofs.Common.{◌∙◌, ap}
use Rattle.pl_hyper.specs.Ears.{Removal}
use Rattle.pl_normal.proofs.Joins.{core_numbers}
use Rattle.pl_normal.proofs.nodes.root_relation.Goals as goal

pub is_fixed_node-requires-clause-edges : goal.is_fixed_node-requires-clause-edges
is_fixed_node-requires-clause-edges g c = c.core-core.ensures.core
    ∙ ap (λ (p : Removal). p.core) c.requires.form.plan

pub is_fixed_node-requires-clause-numbers : goal.is_fixed_node-requires-clause-numbers
is_fixed_node-requires-clause-numbers g c =
    core_numbers c.args.query.now.schema.now c.args.form.now.edges c.args.form.now.plan
    c.core-core.result.now c.requires.form.edges c.requires.form.plan
    c.core-core.ensures.core
