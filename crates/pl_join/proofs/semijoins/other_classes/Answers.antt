use Rattle.std.proofs.Common.{ap, not, sym, ◌∙◌}
use Rattle.std.proofs.lemmas.List.{take_all}
use Rattle.pl_join.specs.Relation.{has_class, without}
use Rattle.pl_join.proofs.Loops.{number_kept, number_left}
use Rattle.pl_join.proofs.semijoins.other_classes.Goals as goal
use Rattle.pl_join.proofs.semijoins.other_classes.Goals.{then-not-has+in_ok-push, else-not-has}

pub loop-class-preserved : goal.loop-class-preserved
loop-class-preserved c = elim c.if-not-has.branch [
  | then-not-has+in_ok-push w ↦ rw (w.rest-is, w.in_ok-push.ensures.ok)
      (number_kept (λ k. not (has_class c.args.others.now k)) c.args.classes.now _ _ c.loop-class-test.true
      (ap not (sym c.has.ensures ∙ w.if-not-has.true)) c.loop-class.invariant)
  | else-not-has w ↦ rw w.rest-is
      (number_left (λ k. not (has_class c.args.others.now k)) c.args.classes.now _ _ c.loop-class-test.true
      (ap not (sym c.has.ensures ∙ w.if-not-has.false)) c.loop-class.invariant)
]

pub returns : goal.returns
returns c = c.loop-class.invariant ∙ ap (λ classes. without classes c.args.others.now)
    (take_all c.loop-class.class-index c.args.classes.now c.loop-class-test.false)
