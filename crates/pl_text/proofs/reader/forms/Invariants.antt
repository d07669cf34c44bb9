use Rattle.std.proofs.Common.{length, ◌-◌}
use Rattle.pl_text.specs.Reading.{IsRead}
use Rattle.pl_text.proofs.reader.forms.Given as goal

abbrev pub invariant-loop-at : goal.invariant-loop-at
invariant-loop-at l = IsRead l.bytes l.at l.reading.lists.items l.reading.done.items

abbrev pub decreases-loop-at : goal.decreases-loop-at
decreases-loop-at l = length l.bytes - l.at
