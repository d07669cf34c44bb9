use Rattle.std.proofs.Common.{refl}
use Rattle.pl_hooks.proofs.ranker.Ranker.rank.Goals as goal

pub returns : goal.returns
returns g c = c.requires.counts.counts c.args.state.now c.rank.result c.requires.state
    (record { shown = c.args.state; shows = refl; says = record { met = c.rank.ensures } })
