use Rattle.pl_hooks.proofs.Cuts as cuts
use Rattle.pl_hooks.proofs.laws.hopeless_cut_is_sound.Goals as goal

pub returns : goal.returns
returns g c = record { sound = cuts.hopeless_cut_is_sound g.F.Fn c.args._task.now c.args._cut.now }
