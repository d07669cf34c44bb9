use Rattle.std.proofs.Common.{Contains, sym, take_all}
use Rattle.std.proofs.lemmas.List.Elements.{All-same}
use Rattle.pl_task.proofs.MarkingLemmas.{passed_more}
use Rattle.pl_task.proofs.marking.mark_all.Goals as goal

pub loop-number-preserved : goal.loop-number-preserved
loop-number-preserved c =
    let more = passed_more c.args.numbers.now c.loop-number.number-index c.args.queue.now.items
    c.loop-number.queue.items c.mark.new.queue.items
    c.loop-number-test.true c.loop-number.invariant.1 c.loop-number.invariant.2 c.in_ok-mark.ensures.held
    c.in_ok-mark.ensures.grows in
    (c.in_ok-mark.ensures.marking, more.0, more.1)

pub returns-clause-held : goal.returns-clause-held
returns-clause-held c =
    All-same (Contains c.loop-number.queue.items) _ _
    (sym (take_all c.loop-number.number-index c.args.numbers.now c.loop-number-test.false))
    c.loop-number.invariant.1
