use Rattle.pl_hooks.proofs.Trials.{counts_for}
use Rattle.pl_greedy.proofs.attempting.admit.Goals as goal

pub rank-rank-requires-clause-counts : goal.rank-rank-requires-clause-counts
rank-rank-requires-clause-counts g c = counts_for g.F.Fn c.args.task.now c.args.ranker.now.task.now
    c.args.ranker.now.rank c.requires.ranked c.requires.counts
