use Rattle.std.proofs.Common.{◌∙◌, sym, arith, []}
use Rattle.pl_registry.proofs.Registering.{read_words, many}
use Rattle.std.proofs.lemmas.Option.{get_or_from_slice_get}
use Rattle.pl_registry.proofs.registry.Registry.state.Goals as goal

pub index-requires : goal.index-requires
index-requires c =
    let all = many c.args.self.now c.self.inside.limit c.self.inside.states.keys c.self.inside.links
    c.self.invariant c.self.view_is in
    let l = c.requires in
    omega (arith, all, l)

pub returns : goal.returns
returns c =
    sym (read_words c.args.self.now c.self.inside.limit c.self.inside.states.keys c.self.inside.links
    c.self.invariant c.self.view_is c.args.n
    ∙ get_or_from_slice_get c.self.inside.states.keys c.args.n c.index.result.now [] c.index.ensures)
