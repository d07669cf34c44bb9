use Rattle.std.proofs.Common.{ap, length, arith}
use Rattle.pl_join.proofs.Assignments.{few_classes}
use Rattle.pl_reduce.proofs.layout.Layout.of.Goals as goal

pub lay_stops-requires-clause-few : goal.lay_stops-requires-clause-few
lay_stops-requires-clause-few c =
    let few = few_classes c.in_ok-classes.classes.items 64 c.in_ok-classes.ensures.once
    c.in_ok-classes.ensures.below in
    omega (arith, few, ap length c.deref.ensures.value)

pub lay_places-requires-clause-few : goal.lay_places-requires-clause-few
lay_places-requires-clause-few c =
    let few = few_classes c.in_ok-classes.classes.items 64 c.in_ok-classes.ensures.once
    c.in_ok-classes.ensures.below in
    omega (arith, few, ap length c.deref-2.ensures.value)

pub returns-clause-layout : goal.returns-clause-layout
returns-clause-layout c = record {
  classes = c.in_ok-classes.ensures.order;
  stops = c.in_ok-stops.ensures;
  places = rw c.deref-2.ensures.value at c.in_ok-places.ensures;
}
