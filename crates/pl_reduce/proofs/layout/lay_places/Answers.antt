use Rattle.std.proofs.Common.{◌∙◌, arith}
use Rattle.std.proofs.lemmas.List.{length-set}
use Rattle.pl_reduce.proofs.Places.{place_laid, places_laid}
use Rattle.pl_reduce.proofs.layout.lay_places.Goals as goal

pub loop-place-preserved : goal.loop-place-preserved
loop-place-preserved c =
    let below = c.requires.below c.loop-place.place 0 c.loop-place-test.true in
    record {
      many = length-set c.loop-place.places.items _ _ ∙ c.loop-place.invariant.many;
      laid = place_laid c.args.classes.now c.loop-place.places.items c.loop-place.place c.requires.distinct
          c.loop-place-test.true (omega (arith, below, c.loop-place.invariant.many))
          c.loop-place.invariant.laid;
    }

pub returns : goal.returns
returns c = record {
  many = c.loop-place.invariant.many;
  are = places_laid c.args.classes.now c.loop-place.places.items c.loop-place.place c.requires.distinct
      (omega arith) c.loop-place.invariant.laid;
}
