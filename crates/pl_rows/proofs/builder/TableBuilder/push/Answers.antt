use Rattle.std.proofs.Common.{arith}
use Rattle.pl_rows.proofs.Values.{length-view, pushed}
use Rattle.pl_rows.proofs.builder.TableBuilder.push.Goals as goal

pub overflow_add-self : goal.overflow_add-self
overflow_add-self c = omega (arith, c.requires.few, length-view _ _ _ _ c.self.view_is)

pub returns-clause-rows : goal.returns-clause-rows
returns-clause-rows c = pushed _ _ _ _ _ _ c.self.view_is c.self.invariant c.requires.width
    c.in_default.ensures.items
