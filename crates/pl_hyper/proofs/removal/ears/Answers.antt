use Rattle.std.proofs.Common.{arith, refl}
use Rattle.pl_hyper.proofs.UnderWay.{given_within, numbers_rise, numbers_within, ear_is_edge, core_shrinks}
use Rattle.pl_hyper.proofs.UnderWay.{IsTurn-found, IsUnderWay-begin, IsUnderWay-again, IsUnderWay-on}
use Rattle.pl_hyper.proofs.UnderWay.{IsRemoval-end, holders_on, shared_on}
use Rattle.pl_hyper.proofs.Removals.{IsRemoval-unique, IsWalkable-removal}
use Rattle.pl_hyper.proofs.Holding.{holders_of}
use Rattle.pl_hyper.proofs.removal.ears.Goals as goal

pub shared_classes-shared-requires-clause-within : goal.shared_classes-shared-requires-clause-within
shared_classes-shared-requires-clause-within c = numbers_within c.args.edges.now c.in_ok-core.core.items _
    c.deref.ensures.value c.in_ok-core.ensures

pub shared_classes-shared-requires-clause-rising : goal.shared_classes-shared-requires-clause-rising
shared_classes-shared-requires-clause-rising c = numbers_rise c.args.edges.now c.in_ok-core.core.items _
    c.deref.ensures.value c.in_ok-core.ensures

pub loop-place-init : goal.loop-place-init
loop-place-init c = (
  IsUnderWay-begin c.args.edges.now c.in_ok-core.core.items c.in_ok-removed.removed.items c.deref.result.now
      c.shared_classes-shared.result c.in_ok-core.ensures c.in_ok-removed.ensures.items
      c.deref.ensures.value c.shared_classes-shared.ensures,
  holders_of c.args.edges.now c.in_ok-core.core.items c.in_ok-holders.holders.words.items
      c.in_ok-holders.holders.present.items c.in_ok-core.ensures c.in_ok-holders.ensures,
)

pub first_ear-requires-clause-within : goal.first_ear-requires-clause-within
first_ear-requires-clause-within c = given_within c.args.edges.now c.loop-place.core.items _ _ _ _
    c.deref-in-loop-place.ensures.value c.loop-place.invariant.0

pub take_out-requires : goal.take_out-requires
take_out-requires c =
    let low =
    (ear_is_edge c.args.edges.now c.loop-place.core.items c.loop-place.removed.items c.loop-place.shared
    c.loop-place.from c.in-Some.place c.in-Some.parent c.index-edge.result.now
    c.deref-in-loop-place.result.now c.loop-place.invariant.0 c.deref-in-loop-place.ensures.value
    c.in-Some.ensures.first
    c.index-edge.ensures) in
    omega (arith, low, c.loop-place.invariant.1.all_edges)

pub bounds-edges-edge : goal.bounds-edges-edge
bounds-edges-edge c =
    ear_is_edge c.args.edges.now c.loop-place.core.items c.loop-place.removed.items c.loop-place.shared
    c.loop-place.from c.in-Some.place c.in-Some.parent c.index-edge.result.now
    c.deref-in-loop-place.result.now c.loop-place.invariant.0 c.deref-in-loop-place.ensures.value
    c.in-Some.ensures.first c.index-edge.ensures

pub still_shared-left-requires-clause-many : goal.still_shared-left-requires-clause-many
still_shared-left-requires-clause-many c =
    (c.take_out.ensures c.args.edges.now c.loop-place.core.items c.loop-place.invariant.1).many

pub still_shared-left-requires-clause-few : goal.still_shared-left-requires-clause-few
still_shared-left-requires-clause-few c =
    (c.take_out.ensures c.args.edges.now c.loop-place.core.items c.loop-place.invariant.1).few

pub loop-place-smaller-then-left-shared : goal.loop-place-smaller-then-left-shared
loop-place-smaller-then-left-shared c =
    core_shrinks c.args.edges.now c.loop-place.core.items c.remove_ear.new.core.items
    c.deref-in-loop-place.result.now c.loop-place.from c.in-Some.place c.in-Some.parent
    c.deref-in-loop-place.ensures.value c.in-Some.ensures.first c.in_ok-remove_ear.ensures.core

pub loop-place-preserved-then-left-shared : goal.loop-place-preserved-then-left-shared
loop-place-preserved-then-left-shared c =
    let turn =
    (IsTurn-found c.args.edges.now c.loop-place.core.items c.loop-place.removed.items c.loop-place.shared
    c.loop-place.from c.in-Some.place c.in-Some.parent c.remove_ear.new.core.items
    c.remove_ear.new.removed.items c.deref-in-loop-place.result.now c.loop-place.invariant.0
    c.deref-in-loop-place.ensures.value c.in-Some.ensures.first c.in_ok-remove_ear.ensures.core
    c.in_ok-remove_ear.ensures.removed) in
    let held =
    holders_on c.args.edges.now c.loop-place.core.items c.loop-place.removed.items c.loop-place.shared
    c.loop-place.from c.in-Some.place c.in-Some.parent c.remove_ear.new.core.items
    c.remove_ear.new.removed.items
    c.index-edge.result.now c.take_out.new.holders.words.items c.take_out.new.holders.present.items turn
    c.index-edge.ensures
    (c.take_out.ensures c.args.edges.now c.loop-place.core.items c.loop-place.invariant.1) in
    let left =
    shared_on c.args.edges.now c.loop-place.core.items c.loop-place.removed.items c.loop-place.shared
    c.loop-place.from c.in-Some.place c.in-Some.parent c.remove_ear.new.core.items
    c.remove_ear.new.removed.items
    c.index-edge.result.now c.still_shared-left.result turn c.index-edge.ensures
    (c.still_shared-left.ensures c.args.edges.now c.remove_ear.new.core.items held) in (
      IsUnderWay-on c.args.edges.now c.loop-place.core.items c.loop-place.removed.items c.loop-place.shared
          c.loop-place.from c.in-Some.place c.in-Some.parent c.remove_ear.new.core.items
          c.remove_ear.new.removed.items c.remove_ear.new.core.items
          c.still_shared-left.result turn refl left c.if-left-shared.true,
      held,
    )

pub loop-place-smaller : goal.loop-place-smaller
loop-place-smaller c =
    core_shrinks c.args.edges.now c.loop-place.core.items c.remove_ear.new.core.items
    c.deref-in-loop-place.result.now c.loop-place.from c.in-Some.place c.in-Some.parent
    c.deref-in-loop-place.ensures.value c.in-Some.ensures.first c.in_ok-remove_ear.ensures.core

pub loop-place-preserved : goal.loop-place-preserved
loop-place-preserved c =
    let turn =
    (IsTurn-found c.args.edges.now c.loop-place.core.items c.loop-place.removed.items c.loop-place.shared
    c.loop-place.from c.in-Some.place c.in-Some.parent c.remove_ear.new.core.items
    c.remove_ear.new.removed.items c.deref-in-loop-place.result.now c.loop-place.invariant.0
    c.deref-in-loop-place.ensures.value c.in-Some.ensures.first c.in_ok-remove_ear.ensures.core
    c.in_ok-remove_ear.ensures.removed) in
    let held =
    holders_on c.args.edges.now c.loop-place.core.items c.loop-place.removed.items c.loop-place.shared
    c.loop-place.from c.in-Some.place c.in-Some.parent c.remove_ear.new.core.items
    c.remove_ear.new.removed.items
    c.index-edge.result.now c.take_out.new.holders.words.items c.take_out.new.holders.present.items turn
    c.index-edge.ensures
    (c.take_out.ensures c.args.edges.now c.loop-place.core.items c.loop-place.invariant.1) in
    let left =
    shared_on c.args.edges.now c.loop-place.core.items c.loop-place.removed.items c.loop-place.shared
    c.loop-place.from c.in-Some.place c.in-Some.parent c.remove_ear.new.core.items
    c.remove_ear.new.removed.items
    c.index-edge.result.now c.still_shared-left.result turn c.index-edge.ensures
    (c.still_shared-left.ensures c.args.edges.now c.remove_ear.new.core.items held) in (
      IsUnderWay-again c.args.edges.now c.loop-place.core.items c.loop-place.removed.items c.loop-place.shared
          c.loop-place.from c.in-Some.place c.in-Some.parent c.remove_ear.new.core.items
          c.remove_ear.new.removed.items c.remove_ear.new.core.items
          c.still_shared-left.result turn refl left,
      held,
    )

pub new-requires : goal.new-requires
new-requires c =
    IsRemoval-end c.args.edges.now c.in_ok-from_slice.field-0.items c.loop-place.core.items
    c.loop-place.removed.items c.loop-place.shared c.loop-place.from c.deref-in-loop-place.result.now
    c.in_ok-from_slice.ensures.items c.loop-place.invariant.0 c.deref-in-loop-place.ensures.value
    c.in_default.ensures.none

pub returns-clause-walkable : goal.returns-clause-walkable
returns-clause-walkable c = IsWalkable-removal c.new.result c.new.ensures.removal

pub returns-clause-unique : goal.returns-clause-unique
returns-clause-unique c = λ other r e. IsRemoval-unique c.new.result other c.new.ensures.removal r e
