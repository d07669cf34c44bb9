-- What was passed is held, and only that was appended.
use Rattle.std.proofs.Common.{take, All, Contains}
use Rattle.pl_task.specs.Marking.{IsMarking, Grows}
use Rattle.pl_task.proofs.marking.mark_all.Given as goal

abbrev pub invariant-loop-number : goal.invariant-loop-number
invariant-loop-number l =
    IsMarking l.marks l.queue.items ×
    All (Contains l.queue.items) (take l.number-index l.numbers) ×
    Grows l.numbers l.fn.queue.items l.queue.items
