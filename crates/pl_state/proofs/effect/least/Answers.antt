use Rattle.std.proofs.Common.{◌++◌, ◌∷◌, [], List, take, sym, ap, ◌∙◌, subst, append_assoc}
use Rattle.std.proofs.lemmas.List.{take_more, take_all}
use Rattle.pl_task.specs.declared.data.Lifted.{Lifted}
use Rattle.pl_state.specs.Changing.{IsNext, is_done}
use Rattle.pl_state.proofs.effect.least.Goals as goal

pub loop-effect-preserved : goal.loop-effect-preserved
loop-effect-preserved c = record {
  next = λ before h. subst (λ (l : List Lifted). IsNext c.args.args.now c.args.predicate
      (is_done c.args.args.now c.args.last) l c.lesser-best.result)
      (append_assoc before (take c.loop-effect.effect-index c.args.effects.now) (c.effect-item.result ∷ []) ∙
      ap (λ (l : List Lifted). before ++ l)
      (ap (λ (x : Lifted). take c.loop-effect.effect-index c.args.effects.now ++ x ∷ []) c.effect-item.is ∙
      sym (take_more c.args.effects.now c.loop-effect.effect-index c.effect-item.result
      c.loop-effect-test.true)))
      (c.lesser-best.ensures.next (before ++ take c.loop-effect.effect-index c.args.effects.now)
      (c.loop-effect.invariant.next before h));
  row = c.lesser-best.ensures.row;
}

pub returns-clause-next : goal.returns-clause-next
returns-clause-next c = λ before h.
    subst (λ (l : List Lifted). IsNext c.args.args.now c.args.predicate (is_done c.args.args.now c.args.last)
    (before ++ l) c.loop-effect.best)
    (take_all c.loop-effect.effect-index c.args.effects.now c.loop-effect-test.false)
    (c.loop-effect.invariant.next before h)
