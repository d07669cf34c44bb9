use Rattle.std.proofs.Common.{◌<◌, ◌∙◌, ap, arith, length, subst, sym}
use Rattle.std.specs.Prelude.{slice_index}
use Rattle.std.specs.List.{AllPairs}
use Rattle.pl_hyper.specs.Ears.{Removal}
use Rattle.pl_kernel.specs.ClassesByAppearance.{classes_by_appearance}
use Rattle.pl_join.specs.Relation.{ClassRows, IsJoinOfAll}
use Rattle.pl_normal.specs.Asked.{state_asked}
use Rattle.pl_normal.specs.Queries.{AreRelationsAt, IsRelationAt}
use Rattle.pl_normal.specs.Recipes.{IsNodeRelation, plan_of}
use Rattle.pl_normal.proofs.Forms.{schema_of}
use Rattle.pl_normal.proofs.Joins.{core_numbers, core_some, if_both, joined_root, lone_core, lone_root}
use Rattle.pl_normal.proofs.Joins.{not_alone}
use Rattle.pl_normal.proofs.nodes.core_relation.Goals as goal

pub edge_relation-requires-clause-number : goal.edge_relation-requires-clause-number
edge_relation-requires-clause-number g c =
    core_numbers c.args.query.now.schema.now c.args.form.now.edges c.args.form.now.plan c.args.core.now
    c.requires.form.edges c.requires.form.plan c.requires.core
    0 0 (omega (arith, c.if-core-eq1.true))

pub returns-then-core-eq1-clause-relation : goal.returns-then-core-eq1-clause-relation
returns-then-core-eq1-clause-relation g c =
    let low = core_numbers c.args.query.now.schema.now c.args.form.now.edges c.args.form.now.plan
    c.args.core.now c.requires.form.edges c.requires.form.plan c.requires.core
    0 0 (omega (arith, c.if-core-eq1.true)) in
    if_both c.edge_relation.result (IsRelationAt c.args.query.now.task.now c.args.query.now.schema.now
    (state_asked c.args.query.now) (slice_index c.args.core.now 0))
    (λ (r : ClassRows). AllPairs (λ a b. a < b) r.classes)
    (IsNodeRelation c.args.query.now.task.now c.args.query.now.schema.now (state_asked c.args.query.now) 0)
    (λ r is rising. lone_root c.args.query.now.task.now c.args.query.now.schema.now
    (state_asked c.args.query.now)
    (slice_index c.args.core.now 0) r
    (schema_of c.args.query.now.task.now c.args.query.now.number c.args.query.now.schema.now
    c.requires.query.found)
    (sym (c.requires.core ∙ ap (λ (p : Removal). p.core) c.requires.form.plan) ∙ lone_core c.args.core.now
    c.if-core-eq1.true)
    (subst (λ xs. slice_index c.args.core.now 0 < length xs) c.requires.form.edges low) is rising)
    c.edge_relation.ensures.relation c.edge_relation.ensures.rising

pub edge_relations-requires-clause-numbers : goal.edge_relations-requires-clause-numbers
edge_relations-requires-clause-numbers g c =
    core_numbers c.args.query.now.schema.now c.args.form.now.edges c.args.form.now.plan c.args.core.now
    c.requires.form.edges c.requires.form.plan c.requires.core

pub core_table-requires : goal.core_table-requires
core_table-requires g c =
    let some = core_some c.args.query.now.schema.now c.args.form.now.edges c.args.form.now.plan
    c.args.core.now c.requires.form.edges c.requires.form.plan c.requires.core
    c.requires.some in
    let many = c.in_ok-relations.ensures.relations.many in
    let same = ap length c.deref.ensures.value in omega (arith, some, many, same)

pub returns-clause-relation : goal.returns-clause-relation
returns-clause-relation g c =
    let core = c.requires.core ∙ ap (λ (p : Removal). p.core) c.requires.form.plan in
    let are = subst (λ ns. AreRelationsAt c.args.query.now.task.now c.args.query.now.schema.now
    (state_asked c.args.query.now) ns c.in_ok-relations.relations.items) core
    c.in_ok-relations.ensures.relations in
    joined_root c.args.query.now.task.now c.args.query.now.schema.now (state_asked c.args.query.now)
    c.in_ok-relations.relations.items c.in_ok-root.root
    (schema_of c.args.query.now.task.now c.args.query.now.number c.args.query.now.schema.now
    c.requires.query.found) are c.relation_is_one.ensures
    (c.in_ok-root.ensures.classes ∙ ap classes_by_appearance c.deref.ensures.value)
    (subst (λ xs. IsJoinOfAll xs c.in_ok-root.root) c.deref.ensures.value c.in_ok-root.ensures.rows)
    (c.core_classes_are_in_class_order.ensures (plan_of c.args.query.now.schema.now).edges
    (plan_of c.args.query.now.schema.now).core c.in_ok-relations.relations.items are.many)

pub returns-clause-cost : goal.returns-clause-cost
returns-clause-cost g c = λ few.
    absurd (not_alone (length c.args.core.now)
    (core_some c.args.query.now.schema.now c.args.form.now.edges c.args.form.now.plan c.args.core.now
    c.requires.form.edges c.requires.form.plan c.requires.core
    c.requires.some) c.if-core-eq1.false few)
