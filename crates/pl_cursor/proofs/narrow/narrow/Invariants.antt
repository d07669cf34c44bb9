use Rattle.std.proofs.Common.{◌+◌, ◌*◌, ◌≤◌, length}
use Rattle.pl_cursor.specs.Stages.{stages_of}
use Rattle.pl_cursor.specs.Kept.{Narrows}
use Rattle.pl_cursor.proofs.narrow.narrow.Given as goal

abbrev pub invariant-loop-t : goal.invariant-loop-t
invariant-loop-t g l = Narrows (stages_of l.reduced) (length l.reduced.classes) l.frames l.answer l.t
    × (l.steps ≤ l.initial.steps + 3 * l.t) × (l.initial.steps ≤ l.steps)
