use Rattle.std.proofs.Common.{◌≡◌}
use Rattle.pl_state.specs.Reading.{start_of}
use Rattle.pl_state.proofs.parts.part_start.Given as goal

abbrev pub invariant-loop-number : goal.invariant-loop-number
invariant-loop-number l = l.at ≡ start_of l.task l.words l.number
