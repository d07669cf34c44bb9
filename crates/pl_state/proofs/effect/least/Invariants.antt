use Rattle.std.proofs.Common.{◌++◌, take, List}
use Rattle.std.specs.Option.{IfSome}
use Rattle.pl_task.specs.declared.data.Lifted.{Lifted}
use Rattle.pl_state.specs.Changing.{IsNext, is_done, HasRow}
use Rattle.pl_state.proofs.effect.least.Given as goal

abbrev pub invariant-loop-effect : goal.invariant-loop-effect
invariant-loop-effect l = record {
  next : (before : List Lifted) → IsNext l.args l.predicate (is_done l.args l.last) before l.fn.best →
      IsNext l.args l.predicate (is_done l.args l.last) (before ++ take l.effect-index l.effects) l.best;
  row : IfSome l.best (λ b. HasRow l.args l._arity b.now);
}
