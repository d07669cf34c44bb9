use Rattle.std.proofs.Common.{◌-◌, ◌≡◌, ◌≤◌, ◌+◌}
use Rattle.pl_gen.specs.Reads.{reads_at}
use Rattle.pl_gen.specs.Walks.{AreLocal}
use Rattle.pl_gen.specs.Turns.{IsPlace, left_at, step_of_place}
use Rattle.pl_gen.proofs.place.walk_on.Given as goal

abbrev pub invariant-loop-place : goal.invariant-loop-place
invariant-loop-place g l =
    (left_at l.prepared l.place ≡ left_at l.prepared l.initial.place)
    × (step_of_place l.place ≡ step_of_place l.initial.place)
    × IsPlace l.prepared.task l.place
    × (l.initial.steps ≤ l.steps)
    × (l.steps + reads_at l.prepared l.place ≤ l.initial.steps + reads_at l.prepared l.initial.place)
    × (AreLocal l.prepared.task l.initial.place.number l.place.number → l.steps ≡ l.initial.steps)
    × (l.initial.place.number ≤ l.place.number)

abbrev pub decreases-loop-place : goal.decreases-loop-place
decreases-loop-place g l = l.count - l.place.number
