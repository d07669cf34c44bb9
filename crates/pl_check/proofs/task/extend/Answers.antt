use Rattle.pl_check.proofs.GatheringLemmas.{extended_at}
use Rattle.pl_check.proofs.task.extend.Goals as goal

pub returns : goal.returns
returns c =
    extended_at c.args.lists.now.items c.args.place c.index_mut.result.now
    c.extend_from_slice.new.self c.args.numbers.now
    c.requires c.index_mut.ensures.value c.in_ok-extend_from_slice.ensures.items
