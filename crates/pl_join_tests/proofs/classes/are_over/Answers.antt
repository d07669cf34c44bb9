use Rattle.std.proofs.Common.{◌≡◌, true, All, subst, rules}
use Rattle.std.proofs.lemmas.List.{take_all}
use Rattle.std.proofs.lemmas.List.Elements.{All-more}
use Rattle.pl_join.specs.Relation.{IsSlotOver}
use Rattle.pl_join_tests.proofs.classes.are_over.Goals as goal

pub loop-slot-preserved : goal.loop-slot-preserved
loop-slot-preserved c =
    let yes : c.is_over.result ≡ true = search rules in
    All-more (IsSlotOver c.args.classes.now) c.args.slots.now c.loop-slot.slot-index _ c.loop-slot-test.true
    c.loop-slot.invariant (c.is_over.ensures yes)

pub returns : goal.returns
returns c t = subst (All (IsSlotOver c.args.classes.now))
    (take_all c.loop-slot.slot-index c.args.slots.now c.loop-slot-test.false) c.loop-slot.invariant
