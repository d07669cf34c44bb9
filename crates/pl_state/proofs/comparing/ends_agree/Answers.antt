use Rattle.pl_state.proofs.Comparings.{ends_decide}
use Rattle.pl_state.proofs.comparing.ends_agree.Goals as goal

pub returns : goal.returns
returns c =
    ends_decide c.args.a.now c.args.b.now c.args.count c.behind-end.result.now c.behind-other.result.now
    c.pairs_differ.result c.requires.many c.requires.same c.requires.all
    c.behind-end.ensures c.behind-other.ensures
    c.pairs_differ.ensures.apart c.pairs_differ.ensures.first c.pairs_differ.ensures.second
