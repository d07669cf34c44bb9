use Rattle.std.proofs.Common.{◌≡◌, true, All, Contains, subst, rules}
use Rattle.pl_join_tests.proofs.relations.keyed.Goals as goal

pub by-requires-clause-held : goal.by-requires-clause-held
by-requires-clause-held g c =
    let held : c.are_held.result ≡ true = search rules in
    subst (λ classes. All (Contains classes) c.args.key.now) c.classes.ensures.classes
    (c.are_held.ensures held)
