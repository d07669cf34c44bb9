use Rattle.std.proofs.Common.{arith, length}
use Rattle.std.proofs.lemmas.List.{length_push}
use Rattle.std.proofs.lemmas.Iterator.Adapters.{YieldsList-from_rev_slice}
use Rattle.std.proofs.lemmas.Iterator.Consumers.{YieldsList-turn, YieldsList-end}
use Rattle.pl_hyper.proofs.Orders.{listed_core, listed_removed, listed_all}
use Rattle.pl_hyper.proofs.ClassOrders.{IsOrderOf-class_order}
use Rattle.pl_hyper.proofs.order.order_of_classes.Goals as goal

pub loop-edge-preserved : goal.loop-edge-preserved
loop-edge-preserved c =
    listed_core c.args.edges.now c.args.core.now c.loop-edge.order.items c.loop-edge.met
    c.loop-edge.edge-index c.append_classes.new.order.items (omega arith) (omega arith)
    c.loop-edge.invariant c.in_ok-append_classes.ensures

pub loop-ear-preserved : goal.loop-ear-preserved
loop-ear-preserved c =
    let turn = YieldsList-turn (YieldsList-from_rev_slice c.args.removed.now cc) c.loop-ear.yielded _
    c.loop-ear.yielded_by _ _ c.in-Some.ear c.in-Some.is c.next.ensures.steps in
    listed_removed c.args.edges.now c.args.core.now c.loop-ear.order.items c.args.removed.now c.loop-ear.met
    (length c.loop-ear.yielded) _ c.in-Some.ear.now c.append_classes-in-loop-ear.new.order.items
    (length_push c.loop-ear.yielded c.in-Some.ear) turn (omega arith) c.loop-ear.invariant
    c.in_ok-append_classes-2.ensures

pub returns : goal.returns
returns c =
    let end = YieldsList-end (YieldsList-from_rev_slice c.args.removed.now cc) c.loop-ear.yielded _
    c.loop-ear.yielded_by _ _ c.in-None.is c.next.ensures.steps in
    let is = listed_all c.args.edges.now c.args.core.now c.loop-ear.order.items c.args.removed.now
    c.loop-ear.met (length c.loop-ear.yielded) end.1 c.loop-ear.invariant in
    let facts = IsOrderOf-class_order (record {
      edges = c.args.edges.now;
      removed = c.args.removed.now;
      core = c.args.core.now;
    }) c.loop-ear.order.items is c.requires.removal
    (λ e. let fits = c.type_inv.edges e in omega arith) in
    record {
      order = is;
      once = facts.once;
      classes = facts.classes;
      below = facts.below;
      walked = facts.walked;
    }
