use Rattle.std.proofs.Common.{◌≡◌, ◌<◌, ◌≤◌, ◌+◌, ℕ, length}
use Rattle.pl_names.proofs.Parts.{IsDirectoryUpTo}
use Rattle.pl_names.proofs.directory.directory.Given as goal

abbrev pub invariant-loop-part : goal.invariant-loop-part
invariant-loop-part l = IsDirectoryUpTo l.entries l.shift l.starts.items l.part l.place
