use Rattle.std.proofs.Common.{◌≡◌, ◌<◌, ◌+◌, ◌++◌, ◌∷◌, [], ℕ, List, map, take, length, get_or, ap, sym, ◌∙◌}
use Rattle.std.proofs.Common.{subst, arith}
use Rattle.std.proofs.lemmas.List.{length_push, map_more, map_push}
use Rattle.std.proofs.lemmas.List.Elements.{All-push}
use Rattle.std.proofs.lemmas.List.{get_or-map}
use Rattle.pl_join.specs.Relation.{Assignment}
use Rattle.pl_join.specs.declared.source.Source.{Source}
use Rattle.pl_join.specs.declared.source.Source.TheVariants.{Column}
use Rattle.pl_join.specs.Source.{IsWithin, looked_at, value_at}
use Rattle.pl_join.proofs.source.class_sources.Goals as goal

-- the column is the source's
same_column : (a b : ℕ) → Column a ≡ Column b → a ≡ b
same_column a b e = cc

-- the source of one class more
one_more : (classes wanted : List ℕ) (sources : List Source) (i column : ℕ) (f : Assignment) →
    i < length wanted → column < length classes → get_or classes column 0 ≡ get_or wanted i 0 →
    looked_at sources (map f classes) ≡ map f (take i wanted) →
    looked_at (sources ++ Column column ∷ []) (map f classes) ≡ map f (take (i + 1) wanted)
one_more classes wanted sources i column f low within here so_far =
    map_push (value_at (map f classes)) sources (Column column)
    ∙ ap (λ values. values ++ get_or (map f classes) column 0 ∷ []) so_far
    ∙ ap (λ value. map f (take i wanted) ++ value ∷ []) (get_or-map f classes column 0 0 within ∙ ap f here)
    ∙ sym (map_more f wanted i 0 low)

pub loop-class-preserved : goal.loop-class-preserved
loop-class-preserved c = record {
  len = rw c.in_ok-push.ensures.ok
      (omega (
        arith,
        length_push c.loop-class.sources.items (Column c.column_of.result),
        c.loop-class.invariant.len,
      ));
  within = rw c.in_ok-push.ensures.ok
      (All-push (IsWithin (length c.args.classes.now)) _ _ c.loop-class.invariant.within
      (λ column e. subst (λ k. k < length c.args.classes.now) (same_column c.column_of.result column e)
      c.column_of.ensures.within));
  values = λ f. rw c.in_ok-push.ensures.ok
      (one_more c.args.classes.now c.args.wanted.now _ c.loop-class.class-index c.column_of.result f
      c.loop-class-test.true c.column_of.ensures.within c.column_of.ensures.place
      (c.loop-class.invariant.values f));
}
