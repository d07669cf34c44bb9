use Rattle.std.proofs.Common.{◌<◌, length, arith}
use Rattle.std.proofs.lemmas.List.{length-replicate}
use Rattle.pl_task.proofs.MarkingLemmas.{walk_begun, walk_more, walk_ended, read_at, parents_at}
use Rattle.pl_task.proofs.marking.is_reached.Goals as goal

pub loop-next-init : goal.loop-next-init
loop-next-init c =
    let a = c.in_ok-mark_all.ensures in
    walk_begun c.args.types.now c.args.starts.now c.mark_all.new.marks c.mark_all.new.queue.items
    (grind (arith, length-replicate))
    c.requires.starts a.marking a.held (rw c.new-queue.ensures.items at a.grows)

pub loop-next-preserved : goal.loop-next-preserved
loop-next-preserved c =
    let a = c.in_ok-mark_all-2.ensures in
    let parents = c.as_slice.ensures in
    let here : c.loop-next.next < length c.loop-next.queue.items = omega arith in
    let d = c.index-types-index in
    let read = read_at c.args.types.now c.loop-next.queue.items c.loop-next.next c.index.result.now d.result
    c.loop-next.invariant.within here c.index.ensures d.is in
    walk_more c.args.types.now c.args.starts.now c.loop-next.marks c.mark_all-in-loop-next.new.marks
    c.loop-next.queue.items
    c.mark_all-in-loop-next.new.queue.items c.loop-next.next c.index-types-index.result
    c.loop-next.invariant here read.0
    (parents_at c.args.types.now c.index.result.now d.result c.requires.types.parents read.1 d.is)
    c.mark_all-in-loop-next.auto.marks a.marking (rw parents at a.held) (rw parents at a.grows)

pub returns : goal.returns
returns c =
    walk_ended c.args.types.now c.args.starts.now c.loop-next.marks c.loop-next.queue.items
    c.loop-next.next c.args.type_number
    c.loop-next.invariant (omega arith)
