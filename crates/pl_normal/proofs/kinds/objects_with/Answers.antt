use Rattle.std.proofs.Common.{◌∙◌, ap, map, refl, subst, sym}
use Rattle.pl_normal.specs.Guards.{has_some_type}
use Rattle.pl_normal.specs.Kinds.{IsNumbering, object_types}
use Rattle.pl_normal.proofs.KindLemmas.{objects_below-more}
use Rattle.pl_normal.proofs.kinds.objects_with.Goals as goal

pub loop-o-preserved : goal.loop-o-preserved
loop-o-preserved c =
    objects_below-more c.args.task.now c.args.types.now c.as_slice-numbers.result.now
    c.args.objects.now.firsts.items c.as_slice-answers.result.now c.loop-o.o _ _ c.loop-o.flat.items
    c.add_object.new.flat.items
    (subst (λ xs. IsNumbering (object_types c.args.task.now.objects) xs c.args.objects.now.firsts.items)
    (sym c.as_slice-numbers.ensures.value) c.requires.objects)
    (c.as_slice-answers.ensures.value
    ∙ (c.in_ok-found.ensures ∙ ap (map (has_some_type c.args.task.now c.args.types.now))
    c.as_slice.ensures.value))
    c.loop-o-test.true refl c.loop-o.invariant c.in_ok-add_object.ensures
