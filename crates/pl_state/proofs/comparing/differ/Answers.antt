use Rattle.pl_state.proofs.Comparings.{agree_behind}
use Rattle.pl_state.proofs.comparing.differ.Goals as goal

pub returns-clause-alike : goal.returns-clause-alike
returns-clause-alike c =
    agree_behind c.args.a.now c.args.b.now c.args.from c.args.count c.behind-left.result.now
    c.behind-right.result.now
    c.first_differ.result c.behind-left.ensures c.behind-right.ensures c.first_differ.ensures.alike
