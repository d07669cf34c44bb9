use Rattle.std.proofs.Common.{◌≡◌, Some, All, Contains, ap, sym, ◌∙◌, subst}
use Rattle.pl_join.specs.Relation.{AreDistinct}
use Rattle.pl_reduce.specs.Recipes.{option_at}
use Rattle.pl_reduce.specs.Arranged.{ordered, IsArrangement}
use Rattle.pl_reduce.proofs.Arrangements.{ordered_held, ordered_distinct, is_arranged}
use Rattle.pl_reduce.proofs.arranging.arrangement.Goals as goal

pub project-requires-clause-held : goal.project-requires-clause-held
project-requires-clause-held g c =
    subst (All (Contains c.in-Some.relation.now.classes))
    (sym (c.deref.ensures.value ∙ c.in_ok-classes.ensures
    ∙ ap (ordered c.args.order.now) c.classes-held.ensures.classes))
    (ordered_held c.args.order.now c.in-Some.relation.now.classes)

pub project-requires-clause-distinct : goal.project-requires-clause-distinct
project-requires-clause-distinct g c =
    subst AreDistinct
    (sym (c.deref.ensures.value ∙ c.in_ok-classes.ensures
    ∙ ap (ordered c.args.order.now) c.classes-held.ensures.classes))
    (ordered_distinct c.args.order.now c.in-Some.relation.now.classes c.requires.distinct)

pub returns-clause-arranged : goal.returns-clause-arranged
returns-clause-arranged g c =
    let there : option_at c.args.own.now c.args.node ≡ Some c.in-Some.relation.now = c.in-Some.ensures.some in
    subst (λ o. IsArrangement c.args.order.now o (Some c.in_ok-arranged.arranged)) (sym there)
    (is_arranged c.args.order.now c.in-Some.relation.now c.in_ok-arranged.arranged
    (c.requires.held c.in-Some.relation.now there)
    (c.in_ok-arranged.ensures.classes ∙ c.deref.ensures.value ∙ c.in_ok-classes.ensures
    ∙ ap (ordered c.args.order.now) c.classes-held.ensures.classes)
    c.in_ok-arranged.ensures.rows c.in_ok-arranged.ensures.most)
