use Rattle.pl_hyper.proofs.Holding.{left_without}
use Rattle.pl_hyper.proofs.holders.take_out.Goals as goal

pub returns : goal.returns
returns c = λ edges remaining a.
    left_without edges remaining c.args.holders.now.words.items c.args.holders.now.present.items
    c.as_mut_slice-present.result.now c.args.edge c.without_member.result c.args.holders.now.present.len
    c.as_mut_slice-present.ensures.value c.as_mut_slice-present.ensures.len c.requires
    c.without_member.ensures.members a
