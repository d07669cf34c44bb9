use Rattle.std.proofs.Common.{subst}
use Rattle.pl_hyper.specs.Ears.{IsWalkable}
use Rattle.pl_hyper.proofs.Removals.{IsWalkable-removal}
use Rattle.pl_hyper.proofs.plan.EarPlan.removed.Goals as goal

pub returns-clause-walkable : goal.returns-clause-walkable
returns-clause-walkable c = subst IsWalkable c.self.view_is (IsWalkable-removal _ c.self.invariant)
