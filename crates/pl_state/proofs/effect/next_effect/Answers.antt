use Rattle.std.proofs.Common.{[]}
use Rattle.pl_state.specs.Changing.{is_done}
use Rattle.pl_state.proofs.Namings.{next_none}
use Rattle.pl_state.proofs.effect.next_effect.Goals as goal

pub returns-clause-next : goal.returns-clause-next
returns-clause-next c =
    c.least.ensures.next c.args.deletes.now
    (c.least-first.ensures.next []
    (next_none c.args.args.now c.args.predicate (is_done c.args.args.now c.args.last)))
