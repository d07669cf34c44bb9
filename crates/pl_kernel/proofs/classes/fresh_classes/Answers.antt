use Rattle.std.proofs.Common.{sym, ◌∙◌, ap, arith}
use Rattle.pl_kernel.proofs.Meeting.{fresh_more, fresh_lacking, fresh_met, fresh_all}
use Rattle.pl_kernel.proofs.classes.fresh_classes.Goals as goal
use Rattle.pl_kernel.proofs.classes.fresh_classes.Goals.{then-has+then-not-has+in_ok-push, else-has}
use Rattle.pl_kernel.proofs.classes.fresh_classes.Goals.{else-has-via-then-has+else-not-has}
use Rattle.pl_kernel.proofs.classes.fresh_classes.Goals.{else-has-via-else-has}

pub loop-class-preserved : goal.loop-class-preserved
loop-class-preserved c = elim c.if-has.branch [
  | then-has+then-not-has+in_ok-push w ↦ ap (λ v. v.items) w.fresh-is ∙ w.in_ok-push.ensures.items
      ∙ fresh_more c.loop-class.class c.args.classes.now c.args.met.now c.loop-class.fresh.items
      (sym c.has.ensures ∙ w.if-has.true) (sym w.has-then-has.ensures ∙ w.if-not-has.true)
      c.loop-class.invariant
  | else-has w ↦ elim w.else-has.branch [
    | else-has-via-then-has+else-not-has v ↦ ap (λ v. v.items) w.fresh-is
        ∙ fresh_met c.loop-class.class c.args.classes.now c.args.met.now c.loop-class.fresh.items
        (sym c.has.ensures ∙ v.if-has.true) (sym v.has-then-has.ensures ∙ v.if-not-has.false)
        c.loop-class.invariant
    | else-has-via-else-has v ↦ ap (λ v. v.items) w.fresh-is
        ∙ fresh_lacking c.loop-class.class c.args.classes.now c.args.met.now c.loop-class.fresh.items
        (sym c.has.ensures ∙ v.if-has.false) c.loop-class.invariant
  ]
]

pub returns : goal.returns
returns c = fresh_all c.loop-class.class c.args.classes.now c.args.met.now c.loop-class.fresh.items
    (omega (arith, c.loop-class-test.false)) c.loop-class.invariant
