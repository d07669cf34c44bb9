use Rattle.std.proofs.Common.{◌≡◌, ◌<◌, ◌≤◌, ◌+◌, ℕ, length}
use Rattle.pl_names.specs.Names.{texts}
use Rattle.pl_names.proofs.Parts.{ArePlaces}
use Rattle.pl_names.proofs.entries.entries_of.Given as goal

abbrev pub invariant-loop-i : goal.invariant-loop-i
invariant-loop-i l = ArePlaces (texts l.names) l.entries.items l.i
