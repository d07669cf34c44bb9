use Rattle.std.proofs.Common.{◌≡◌, ◌↔◌, ◌++◌, ap, sym, ◌∙◌, subst, All, Contains}
use Rattle.std.proofs.lemmas.Result.{IfOk-weaker}
use Rattle.pl_join.specs.Relation.{Assignment, AreDistinct, Holds, without}
use Rattle.pl_join.specs.Keyed.{KeyedRows}
use Rattle.pl_join.proofs.Joining.{joined_distinct}
use Rattle.pl_join.proofs.Keys.{front_is, front_held, front_rows}
use Rattle.pl_join.proofs.keyed.Keyed.by.Goals as goal

pub project-requires-clause-held : goal.project-requires-clause-held
project-requires-clause-held g c =
    let order = front_is c.args.relation.now.classes _ c.args.key.now _ _ _ _ c.classes.ensures.classes
    c.in_ok-rest.ensures c.as_slice.ensures c.in_ok-order.ensures c.as_slice-2.ensures in
    subst (All (Contains c.args.relation.now.classes)) (sym order)
    (front_held c.args.relation.now.classes c.args.key.now c.requires.held)

pub project-requires-clause-distinct : goal.project-requires-clause-distinct
project-requires-clause-distinct g c =
    let order = front_is c.args.relation.now.classes _ c.args.key.now _ _ _ _ c.classes.ensures.classes
    c.in_ok-rest.ensures c.as_slice.ensures c.in_ok-order.ensures c.as_slice-2.ensures in
    subst AreDistinct (sym order)
    (joined_distinct c.args.relation.now.classes c.args.key.now c.classes.ensures.relation.distinct
    c.requires.distinct)

pub returns-clause-classes : goal.returns-clause-classes
returns-clause-classes g c =
    let order = front_is c.args.relation.now.classes _ c.args.key.now _ _ _ _ c.classes.ensures.classes
    c.in_ok-rest.ensures c.as_slice.ensures c.in_ok-order.ensures c.as_slice-2.ensures in
    IfOk-weaker _ _ (λ (k : KeyedRows). k.relation.classes ≡ c.args.key.now
    ++ without c.args.relation.now.classes c.args.key.now)
    (λ k e. ap (λ (x : KeyedRows). x.relation.classes) e ∙ c.in_ok-arranged.ensures.classes ∙ order)
    c.of.ensures.keyed

pub returns-clause-rows : goal.returns-clause-rows
returns-clause-rows g c =
    let order = front_is c.args.relation.now.classes _ c.args.key.now _ _ _ _ c.classes.ensures.classes
    c.in_ok-rest.ensures c.as_slice.ensures c.in_ok-order.ensures c.as_slice-2.ensures in
    IfOk-weaker _ _ (λ (k : KeyedRows). (f : Assignment) → Holds k.relation f ↔ Holds c.args.relation.now f)
    (λ k e f. subst (λ (x : KeyedRows). Holds x.relation f ↔ Holds c.args.relation.now f) (sym e)
    (front_rows c.args.relation.now c.in_ok-arranged.arranged c.args.key.now
    (c.in_ok-arranged.ensures.classes ∙ order) c.in_ok-arranged.ensures.rows f)) c.of.ensures.keyed
