use Rattle.std.proofs.Common.{◌∙◌}
use Rattle.pl_hyper.proofs.Acyclic.{IsAcyclic-test, IsJoinTree-seen}
use Rattle.pl_hyper.proofs.plan.EarPlan.is_acyclic.Goals as goal

pub returns-clause-acyclic : goal.returns-clause-acyclic
returns-clause-acyclic c = IsAcyclic-test _ c.args.self.now c.len.result c.self.view_is (c.len.ensures ∙
    c.self.inside.core.ok.0) c.self.invariant

pub returns-clause-join_tree : goal.returns-clause-join_tree
returns-clause-join_tree c = IsJoinTree-seen _ c.args.self.now c.self.view_is c.self.invariant
