use Rattle.std.specs.List.Sorted.{IsStrictlySortedBy}
use Rattle.pl_state.proofs.statics.static_table.Goals as goal

pub from_ascending-requires-clause-ascending : goal.from_ascending-requires-clause-ascending
unfolding IsStrictlySortedBy
from_ascending-requires-clause-ascending c = tt
