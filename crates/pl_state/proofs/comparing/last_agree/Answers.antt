use Rattle.pl_state.proofs.Comparings.{last_decides}
use Rattle.pl_state.proofs.comparing.last_agree.Goals as goal

pub returns : goal.returns
returns c =
    last_decides c.args.a.now c.args.b.now c.args._at c.args.count c.differ.result c.requires.many
    c.requires.same c.requires.left c.requires.before c.differ.ensures.apart c.differ.ensures.alike
