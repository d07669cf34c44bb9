use Rattle.std.proofs.Common.{sym, subst}
use Rattle.pl_join.specs.Relation.{AreDistinct}
use Rattle.pl_kernel.proofs.Meeting.{order_more, below_more_relations, all_members}
use Rattle.pl_kernel.proofs.Meeting.{classes_by_appearance-distinct}
use Rattle.pl_kernel.proofs.classes.ordered_classes.Goals as goal

pub loop-relation-preserved : goal.loop-relation-preserved
loop-relation-preserved c = record {
  order = order_more c.args.relations.now c.loop-relation.relation-index c.relation-item.result
      c.loop-relation.met.items c.deref.result.now c.classes.result.now
      c.in_ok-fresh.fresh.items c.deref-in-loop-relation.result.now c.extend_from_slice.new.self.items
      c.loop-relation-test.true c.relation-item.is c.loop-relation.invariant.order c.deref.ensures.value
      c.classes.ensures.classes c.in_ok-fresh.ensures
      c.deref-in-loop-relation.ensures.value c.in_ok-extend_from_slice.ensures.items;
  below = below_more_relations c.args.relations.now c.loop-relation.relation-index c.relation-item.result
      c.loop-relation-test.true c.relation-item.is
      c.loop-relation.invariant.below c.classes.ensures.relation.below;
}

pub returns-clause-distinct : goal.returns-clause-distinct
returns-clause-distinct c = subst AreDistinct (sym c.loop-relation.invariant.order)
    (classes_by_appearance-distinct _)

pub returns-clause-members : goal.returns-clause-members
returns-clause-members c =
    all_members c.args.relations.now c.loop-relation.relation-index c.loop-relation.met.items
    c.loop-relation-test.false c.loop-relation.invariant.order c.loop-relation.invariant.below
