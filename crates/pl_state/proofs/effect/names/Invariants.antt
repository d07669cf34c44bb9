use Rattle.std.proofs.Common.{◌≡◌, take, false}
use Rattle.pl_state.specs.Changing.{is_named}
use Rattle.pl_state.proofs.effect.names.Given as goal

abbrev pub invariant-loop-effect : goal.invariant-loop-effect
invariant-loop-effect l = is_named l.args l.predicate (take l.effect-index l.effects) l.row ≡ false
