use Rattle.pl_hyper.proofs.Holding.{holders_written}
use Rattle.pl_hyper.proofs.holders.all_holders.Goals as goal

pub returns : goal.returns
returns c =
    holders_written c.args.edges.now c.as_mut_slice.result.now c.in_ok-words.words.items c.fill.new.words
    c.as_mut_slice-2.result.now c.in_ok-present.present.items c.fill.new.present c.in_ok-words.words.len
    c.in_ok-present.present.len c.as_mut_slice.ensures.value c.as_mut_slice.ensures.len c.fill.auto.words
    c.as_mut_slice-2.ensures.value c.as_mut_slice-2.ensures.len c.fill.ensures.many c.requires
    c.in_ok-present.ensures.len c.fill.ensures.filled
