use Rattle.std.proofs.Common.{◌≡◌, ◌+◌, ◌*◌, ◌≤◌, length, sum, sum_by}
use Rattle.pl_join_tests.proofs.answers.added_up.Given as goal

abbrev pub invariant-loop-row : goal.invariant-loop-row
invariant-loop-row g l =
    (l.total.count + length l.cursor.left ≡ length l.initial.cursor.left)
    × (l.total.sum + sum_by sum l.cursor.left ≡ sum_by sum l.initial.cursor.left)
    × (l.cursor.join ≡ l.initial.cursor.join)
    × (l.steps ≤ l.initial.steps + l.total.count * (2 * length l.initial.cursor.join.classes))

abbrev pub decreases-loop-row : goal.decreases-loop-row
decreases-loop-row g l = length l.cursor.left
