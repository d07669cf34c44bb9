use Rattle.std.proofs.Common.{◌≡◌, ◌≤◌, ◌+◌, ◌*◌, [], length}
use Rattle.pl_normal.specs.Filters.{late_of}
use Rattle.pl_gen.specs.Reads.{row_reads}
use Rattle.pl_gen.specs.Kept.{AreRowsFor}
use Rattle.pl_gen.specs.Turns.{passing}
use Rattle.pl_gen.proofs.turn.next_row.Given as goal

abbrev pub invariant-loop-row : goal.invariant-loop-row
invariant-loop-row g l =
    (passing l.query l.initial.cursor.left ≡ passing l.query l.cursor.left)
    × AreRowsFor l.query.normal.now l.query.number l.cursor
    × (length l.values ≡ 64)
    × (l.initial.steps ≤ l.steps)
    × (l.steps + length l.cursor.left * row_reads l.query.schema.now ≤ l.initial.steps + length
    l.initial.cursor.left * row_reads l.query.schema.now)
    × (late_of l.query.schema.now ≡ [] → l.steps ≡ l.initial.steps)

abbrev pub decreases-loop-row : goal.decreases-loop-row
decreases-loop-row g l = length l.cursor.left
