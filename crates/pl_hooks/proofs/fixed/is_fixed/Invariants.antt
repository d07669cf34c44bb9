use Rattle.pl_hooks.proofs.Fixings.{FirstAre, IsFixedIn}
use Rattle.pl_hooks.proofs.fixed.is_fixed.Given as goal

abbrev pub invariant-loop-schema : goal.invariant-loop-schema
invariant-loop-schema l = FirstAre (IsFixedIn l.literal) l.schema-items l.schema-index
