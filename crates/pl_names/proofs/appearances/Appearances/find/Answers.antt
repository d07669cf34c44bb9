use Rattle.std.proofs.Common.{◌∙◌, sym, ap, rules, subst, ℕ, Some, None}
use Rattle.pl_names.specs.Names.{number_among, first_appearances}
use Rattle.pl_names.proofs.Firsts.{numbered_within, number_of_first, no_first}
use Rattle.pl_names.proofs.appearances.Appearances.find.Goals as goal

pub index-requires : goal.index-requires
index-requires c =
    let within = numbered_within c.self.inside.occurrences c.self.inside.names.items
    c.self.inside.numbers.items c.args.name.now c.in-Some.first c.self.invariant
    (sym c.in-Some.is ∙ c.find.ensures) in
    search rules

pub returns-in-Some : goal.returns-in-Some
returns-in-Some c =
    number_of_first c.self.inside.occurrences c.self.inside.names.items c.self.inside.numbers.items
    c.args.name.now c.in-Some.first c.index.result.now c.self.invariant (sym c.in-Some.is ∙
    c.find.ensures) c.index.ensures
    ∙ ap (λ xs. number_among (first_appearances xs) c.args.name.now) c.self.view_is

pub returns-in-None : goal.returns-in-None
returns-in-None c =
    no_first c.self.inside.occurrences c.args.name.now (sym c.in-None.is ∙ c.find.ensures)
    ∙ ap (λ xs. number_among (first_appearances xs) c.args.name.now) c.self.view_is
