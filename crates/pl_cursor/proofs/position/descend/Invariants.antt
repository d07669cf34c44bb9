use Rattle.std.proofs.Common.{◌≡◌, ◌+◌, ◌-◌, ◌*◌, List, ℕ, length}
use Rattle.pl_cursor.specs.Stages.{stages_of}
use Rattle.pl_cursor.specs.Kept.{CanDescend, Descends}
use Rattle.pl_cursor.proofs.position.descend.Given as goal

abbrev pub invariant-loop-t : goal.invariant-loop-t
invariant-loop-t g l =
    CanDescend (stages_of l.reduced) (length l.reduced.classes) l.frames l.answer l.t
    × ((left : List (List ℕ)) → Descends (stages_of l.reduced) (length l.reduced.classes) left
    l.initial.frames l.initial.answer l.depth → Descends (stages_of l.reduced)
    (length l.reduced.classes) left l.frames l.answer l.t)
    × (l.steps ≡ l.initial.steps + 2 * (l.t - l.depth))
