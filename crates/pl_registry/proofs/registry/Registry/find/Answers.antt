use Rattle.std.proofs.Common.{◌∙◌, [], sym, arith, get_or}
use Rattle.std.specs.Str.{bytes_eq}
use Rattle.std.proofs.lemmas.List.Quantifiers.{position-Some}
use Rattle.std.proofs.lemmas.Slice.Eq.{bytes_eq-Decides}
use Rattle.pl_registry.proofs.Registering.{small, many, read_words, not_held}
use Rattle.pl_registry.proofs.registry.Registry.find.Goals as goal

pub overflow_cast-result : goal.overflow_cast-result
overflow_cast-result c =
    let w = c.in-Some.ensures.within in
    let low = small c.args.self.now c.self.inside.limit c.self.inside.states.keys c.self.inside.links
    c.self.invariant c.self.view_is c.in-Some.n (omega (arith, w)) in
    omega (arith, low)

pub returns-in-Some : goal.returns-in-Some
returns-in-Some c =
    let (l, same, _) = position-Some (bytes_eq c.args.state.now) c.self.inside.states.keys c.in-Some.n []
    (sym c.in-Some.ensures.index) in
    let all = many c.args.self.now c.self.inside.limit c.self.inside.states.keys c.self.inside.links
    c.self.invariant c.self.view_is in (
      omega (arith, all, l),
      read_words c.args.self.now c.self.inside.limit c.self.inside.states.keys c.self.inside.links
          c.self.invariant c.self.view_is c.in-Some.n
          ∙ sym ((bytes_eq-Decides c.args.state.now (get_or c.self.inside.states.keys c.in-Some.n [])).0
          same),
    )

pub returns-in-None : goal.returns-in-None
returns-in-None c =
    not_held c.args.self.now c.self.inside.limit c.self.inside.states.keys c.self.inside.links
    c.self.invariant c.self.view_is c.args.state.now (sym c.in-None.ensures.found)
