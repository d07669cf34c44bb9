use Rattle.std.proofs.Common.{length, map, ap, arith, ◌∙◌}
use Rattle.std.proofs.lemmas.List.{length_push, take_all}
use Rattle.std.proofs.lemmas.List.Elements.{All-push}
use Rattle.pl_join.specs.Relation.{slot_value}
use Rattle.pl_join.specs.Source.{IsWithin}
use Rattle.pl_join.proofs.Loops.{sources_more}
use Rattle.pl_join.proofs.source.sources_of.Goals as goal

pub loop-slot-preserved : goal.loop-slot-preserved
loop-slot-preserved c = record {
  len = rw c.in_ok-push.ensures.ok
      (omega (arith, length_push c.loop-slot.sources.items c.source_of.result, c.loop-slot.invariant.len));
  within = rw c.in_ok-push.ensures.ok
      (All-push (IsWithin (length c.args.classes.now)) _ _ c.loop-slot.invariant.within
      c.source_of.ensures.within);
  values = λ f. rw c.in_ok-push.ensures.ok
      (sources_more _ _ _ _ _ _ f c.loop-slot-test.true (c.loop-slot.invariant.values f)
      (c.source_of.ensures.value f));
}

pub returns-clause-values : goal.returns-clause-values
returns-clause-values c f =
    c.loop-slot.invariant.values f ∙ ap (map (slot_value f))
    (take_all c.loop-slot.slot-index c.args.slots.now c.loop-slot-test.false)
