use Rattle.std.proofs.Common.{◌≡◌, ◌↔◌, IsTrue, List, map, subst}
use Rattle.pl_task.specs.declared.data.Term.{Term}
use Rattle.pl_task.specs.States.{value_of}
use Rattle.pl_state.proofs.Namings.{same_row, other_predicate}
use Rattle.pl_state.proofs.effect.names_row.Goals as goal

pub returns-then-effect-predicate : goal.returns-then-effect-predicate
returns-then-effect-predicate c =
    other_predicate c.args.args.now c.args.predicate c.args.row.now c.args.effect.now
    c.if-effect-predicate.true

pub returns : goal.returns
returns c =
    same_row c.args.args.now c.args.predicate c.args.row.now c.args.effect.now c.has_objects.result
    c.if-effect-predicate.false
    (subst (λ (ts : List Term). IsTrue c.has_objects.result ↔
    (c.args.row.now ≡ map (value_of c.args.args.now) ts)) c.as_slice.ensures c.has_objects.ensures)
