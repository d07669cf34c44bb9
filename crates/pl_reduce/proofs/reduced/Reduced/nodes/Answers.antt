use Rattle.pl_reduce.proofs.Walks.{keys_held, fronts}
use Rattle.pl_reduce.proofs.reduced.Reduced.nodes.Goals as goal

pub returns-clause-fronts : goal.returns-clause-fronts
returns-clause-fronts c = fronts c.args.self.now (rw c.self.view_is at c.self.invariant.reduced)

pub returns-clause-keys : goal.returns-clause-keys
returns-clause-keys c = keys_held c.args.self.now (rw c.self.view_is at c.self.invariant.reduced)
