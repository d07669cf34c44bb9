use Rattle.std.proofs.Common.{◌≡◌, ◌∙◌, true, All, Contains, sym, subst, rules}
use Rattle.std.proofs.lemmas.List.{take_all}
use Rattle.std.proofs.lemmas.List.Elements.{All-more}
use Rattle.pl_join.proofs.Members.{has_class-Contains}
use Rattle.pl_join_tests.proofs.classes.are_held.Goals as goal

pub loop-class-preserved : goal.loop-class-preserved
loop-class-preserved c =
    let yes : c.has.result ≡ true = search rules in
    All-more (Contains c.args.classes.now) c.args.wanted.now c.loop-class.class-index 0 c.loop-class-test.true
    c.loop-class.invariant
    ((has_class-Contains c.args.classes.now _).0 (sym c.has.ensures ∙ yes))

pub returns : goal.returns
returns c t = subst (All (Contains c.args.classes.now))
    (take_all c.loop-class.class-index c.args.wanted.now c.loop-class-test.false) c.loop-class.invariant
