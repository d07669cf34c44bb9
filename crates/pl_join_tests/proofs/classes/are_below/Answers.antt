use Rattle.std.proofs.Common.{◌≡◌, true, All, subst, rules}
use Rattle.std.proofs.lemmas.List.{take_all}
use Rattle.std.proofs.lemmas.List.Elements.{All-more}
use Rattle.pl_join.specs.Relation.{IsSlotBelow}
use Rattle.pl_join_tests.proofs.classes.are_below.Goals as goal

pub loop-slot-preserved : goal.loop-slot-preserved
loop-slot-preserved c =
    let yes : c.is_below.result ≡ true = search rules in
    All-more (IsSlotBelow 64) c.args.slots.now c.loop-slot.slot-index _ c.loop-slot-test.true
    c.loop-slot.invariant (c.is_below.ensures yes)

pub returns : goal.returns
returns c t = subst (All (IsSlotBelow 64))
    (take_all c.loop-slot.slot-index c.args.slots.now c.loop-slot-test.false) c.loop-slot.invariant
