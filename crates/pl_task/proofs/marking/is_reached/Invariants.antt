-- What is marked is reached, and the parents of the types before `next` are marked.
use Rattle.std.proofs.Common.{◌-◌, length}
use Rattle.pl_task.proofs.MarkingLemmas.{IsWalk}
use Rattle.pl_task.proofs.marking.is_reached.Given as goal

abbrev pub invariant-loop-next : goal.invariant-loop-next
invariant-loop-next l = IsWalk l.types l.starts l.marks l.queue.items l.next

abbrev pub decreases-loop-next : goal.decreases-loop-next
decreases-loop-next l = length l.types - l.next
