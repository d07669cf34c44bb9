use Rattle.std.proofs.Common.{ap, sym, ◌∙◌}
use Rattle.std.proofs.lemmas.List.{take_all}
use Rattle.pl_join.specs.Relation.{has_class}
use Rattle.pl_join.specs.Source.{shared_with}
use Rattle.pl_join.proofs.Loops.{number_kept, number_left}
use Rattle.pl_join.proofs.semijoins.shared_classes.Goals as goal
use Rattle.pl_join.proofs.semijoins.shared_classes.Goals.{then-has+in_ok-push, else-has}

pub loop-class-preserved : goal.loop-class-preserved
loop-class-preserved c = elim c.if-has.branch [
  | then-has+in_ok-push w ↦ rw (w.shared-is, w.in_ok-push.ensures.ok)
      (number_kept (λ k. has_class c.args.others.now k) c.args.classes.now _ _ c.loop-class-test.true
      (sym c.has.ensures ∙ w.if-has.true) c.loop-class.invariant)
  | else-has w ↦ rw w.shared-is
      (number_left (λ k. has_class c.args.others.now k) c.args.classes.now _ _ c.loop-class-test.true
      (sym c.has.ensures ∙ w.if-has.false) c.loop-class.invariant)
]

pub returns : goal.returns
returns c = c.loop-class.invariant ∙ ap (λ classes. shared_with classes c.args.others.now)
    (take_all c.loop-class.class-index c.args.classes.now c.loop-class-test.false)
