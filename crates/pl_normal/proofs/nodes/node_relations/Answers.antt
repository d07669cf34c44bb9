use Rattle.std.proofs.Common.{◌+◌, ◌≤◌, ◌∙◌, ap, arith, length, refl, subst, sym}
use Rattle.pl_hyper.specs.Ears.{Removal}
use Rattle.pl_hyper.specs.JoinTree.{IsAcyclic}
use Rattle.pl_normal.specs.Asked.{source_rows, state_asked}
use Rattle.pl_normal.proofs.Joins.{ear_numbers, edges_here, no_ear}
use Rattle.pl_normal.proofs.Leaving.{ear_added, nodes_taken}
use Rattle.pl_normal.proofs.Relating.{rises}
use Rattle.pl_normal.proofs.Sharing.{ear_edges, ear_wanted_at, share_more}
use Rattle.pl_normal.proofs.nodes.node_relations.Goals as goal

pub ear_relation-requires-clause-number : goal.ear_relation-requires-clause-number
ear_relation-requires-clause-number g c =
    ear_numbers c.args.query.now.schema.now c.args.form.now.edges c.args.form.now.plan
    c.removed-ears.result.now c.requires.form.edges c.requires.form.plan
    c.removed-ears.ensures.removed c.loop-ear.ear-index no_ear c.loop-ear-test.true

pub ear_relation-requires-clause-node : goal.ear_relation-requires-clause-node
ear_relation-requires-clause-node g c =
    omega (
      arith,
      c.len-node.ensures,
      c.loop-ear.invariant.0.many,
      c.loop-ear-test.true,
      ap length (c.removed-ears.ensures.removed ∙ ap (λ (p : Removal). p.removed) c.requires.form.plan),
    )

pub ear_relation-requires-clause-edges : goal.ear_relation-requires-clause-edges
ear_relation-requires-clause-edges g c =
    ear_edges c.args.query.now.task.now c.args.query.now.schema.now (state_asked c.args.query.now)
    c.args.share c.loop-ear.ear-index c.len-node.result c.removed-ears.result.now no_ear
    (c.removed-ears.ensures.removed ∙ ap (λ (p : Removal). p.removed) c.requires.form.plan)
    c.loop-ear-test.true (omega (arith, c.len-node.ensures, c.loop-ear.invariant.0.many))

pub loop-ear-preserved : goal.loop-ear-preserved
loop-ear-preserved g c = (
  share_more c.args.query.now.task.now c.args.query.now.schema.now (state_asked c.args.query.now)
      c.args.share (c.loop-ear.ear-index + 1) (c.loop-ear.ear-index + 1 + 1) c.loop-ear.nodes.items
      c.push-in-loop-ear.new.self.items c.in_ok-ear_relation.field-0 c.loop-ear.invariant.0
      c.in_ok-push-2.ensures.items refl
      (ear_wanted_at c.args.query.now.task.now c.args.query.now.schema.now (state_asked c.args.query.now)
      c.args.share c.loop-ear.ear-index (c.loop-ear.ear-index + 1) c.removed-ears.result.now no_ear
      c.in_ok-ear_relation.field-0 (c.removed-ears.ensures.removed ∙ ap (λ (p : Removal). p.removed)
      c.requires.form.plan) c.loop-ear-test.true refl
      c.in_ok-ear_relation.ensures.ear),
  rises c.root_relation.new.steps c.loop-ear.steps c.ear_relation.new.steps c.ear_relation.new.steps
      c.loop-ear.invariant.1 c.in_ok-ear_relation.ensures.rise refl,
  ear_added (source_rows c.args.query.now) c.args.form.now c.removed-ears.result.now c.loop-ear.ear-index
      no_ear c.root_relation.new.steps
      c.loop-ear.steps c.ear_relation.new.steps c.loop-ear-test.true c.loop-ear.invariant.2
      c.in_ok-ear_relation.ensures.cost,
)

pub returns-clause-cost : goal.returns-clause-cost
returns-clause-cost g c = λ acyclic.
    nodes_taken c.args.query.now.task.now c.args.query.now.schema.now (state_asked c.args.query.now)
    c.args.form.now c.args.form.now.plan c.removed-ears.result.now c.loop-ear.ear-index c.args.steps.now
    c.root_relation.new.steps c.loop-ear.steps c.requires.form.plan c.removed-ears.ensures.removed
    c.loop-ear-test.false
    (c.in_ok-root_relation.ensures.cost (c.acyclic_plan_keeps_one_edge.ensures.0
    (subst IsAcyclic (sym (ap (λ (p : Removal). p.edges) c.requires.form.plan ∙ edges_here
    c.args.query.now.schema.now)) acyclic)))
    c.loop-ear.invariant.2

pub returns-clause-core : goal.returns-clause-core
returns-clause-core g c = λ acyclic.
    subst (λ (p : Removal). length p.core ≤ 1) c.requires.form.plan
    (c.acyclic_plan_keeps_one_edge.ensures.0
    (subst IsAcyclic (sym (ap (λ (p : Removal). p.edges) c.requires.form.plan ∙ edges_here
    c.args.query.now.schema.now)) acyclic))
