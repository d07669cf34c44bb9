use Rattle.std.proofs.Common.{◌≡◌, true, All, Contains, subst, rules}
use Rattle.pl_join_tests.proofs.given.projected.Goals as goal

pub project-requires-clause-held : goal.project-requires-clause-held
project-requires-clause-held g c =
    let yes : c.are_held.result ≡ true = search rules in
    subst (λ held. All (Contains held) c.args.classes.now) c.classes-held.ensures.classes
    (c.are_held.ensures yes)
