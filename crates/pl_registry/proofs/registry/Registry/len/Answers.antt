use Rattle.std.proofs.Common.{◌∙◌, sym, arith}
use Rattle.pl_registry.proofs.Registering.{small, many}
use Rattle.pl_registry.proofs.registry.Registry.len.Goals as goal

pub overflow_cast-result : goal.overflow_cast-result
overflow_cast-result c =
    let n = c.len.ensures.len in
    let low = small c.args.self.now c.self.inside.limit c.self.inside.states.keys c.self.inside.links
    c.self.invariant c.self.view_is c.len.result (omega (arith, n)) in
    omega (arith, low)

pub returns-clause-len : goal.returns-clause-len
returns-clause-len c = c.len.ensures.len
    ∙ sym (many c.args.self.now c.self.inside.limit c.self.inside.states.keys c.self.inside.links
    c.self.invariant c.self.view_is)
