use Rattle.pl_task.proofs.MarkingLemmas.{marked_more}
use Rattle.pl_task.proofs.marking.mark.Goals as goal

pub returns-in_ok-push-clause-marking : goal.returns-in_ok-push-clause-marking
returns-in_ok-push-clause-marking c =
    rw c.in_ok-push.ensures.items (marked_more c.args.marks.now c.args.queue.now.items c.args.number
    c.requires.number c.if-not-marks-number.true c.requires.marking)
