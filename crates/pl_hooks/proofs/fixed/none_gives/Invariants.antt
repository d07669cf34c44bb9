use Rattle.std.proofs.Common.{All, take}
use Rattle.pl_task.specs.Goal.{CouldGive}
use Rattle.pl_hooks.proofs.fixed.none_gives.Given as goal

abbrev pub invariant-loop-effect : goal.invariant-loop-effect
invariant-loop-effect l = All (λ effect. CouldGive effect l.atom → ⊥) (take l.effect-index l.effects)
