use Rattle.std.proofs.Common.{◌≡◌, ◌≤◌, ℕ, List}
use Rattle.pl_cursor.specs.Answers.{Stage, left_in}
use Rattle.pl_cursor.proofs.position.open_depth.Given as goal

abbrev pub invariant-loop-open : goal.invariant-loop-open
invariant-loop-open l =
    (l.«open» ≤ l.depth)
    × ((stages : List Stage) (answer : List ℕ) → left_in stages l.frames answer l.depth ≡ left_in stages
    l.frames answer l.«open»)

abbrev pub decreases-loop-open : goal.decreases-loop-open
decreases-loop-open l = l.«open»
