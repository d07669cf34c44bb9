use Rattle.std.proofs.Common.{get_or, refl}
use Rattle.pl_normal.specs.Asked.{state_asked}
use Rattle.pl_normal.proofs.Relating.{relations_more, rises}
use Rattle.pl_normal.proofs.relations.edge_relations.Goals as goal

pub loop-number-preserved : goal.loop-number-preserved
loop-number-preserved g c = (
  relations_more c.args.query.now.task.now c.args.query.now.schema.now (state_asked c.args.query.now)
      c.args.numbers.now c.loop-number.number-index
      (get_or c.args.numbers.now c.loop-number.number-index 0) 0 c.loop-number.relations.items
      c.push.new.self.items c.in_ok-edge_relation.field-0
      c.loop-number-test.true refl c.loop-number.invariant.0 c.in_ok-edge_relation.ensures.relation
      c.in_ok-push.ensures.items,
  rises c.args.steps.now c.loop-number.steps c.edge_relation.new.steps c.edge_relation.new.steps
      c.loop-number.invariant.1
      c.in_ok-edge_relation.ensures.rise refl,
)
