use Rattle.std.proofs.Common.{sym, ap, ◌∙◌, ◌++◌, append-nil, arith}
use Rattle.pl_hyper.specs.ClassOrder.{classes_of}
use Rattle.pl_hyper.proofs.Orders.{classes_of-zero, classes_of-below, append_held, append_lacking}
use Rattle.pl_hyper.proofs.order.append_classes.Goals as goal
use Rattle.pl_hyper.proofs.order.append_classes.Goals.{then-classes-class-eq1+in_ok-push}
use Rattle.pl_hyper.proofs.order.append_classes.Goals.{else-classes-class-eq1}

pub returns-then-classes-eq0 : goal.returns-then-classes-eq0
returns-then-classes-eq0 c = sym (ap (λ n. c.args.order.now.items ++ classes_of n) c.if-classes-eq0.true ∙
    (ap (λ xs. c.args.order.now.items ++ xs) classes_of-zero ∙ append-nil c.args.order.now.items))

pub loop-class-preserved : goal.loop-class-preserved
loop-class-preserved c =
    elim c.if-classes-class-eq1.branch [
      | then-classes-class-eq1+in_ok-push w ↦ append_held c.args.order.now.items c.loop-class.order.items
          c.if-classes-class-eq1.order.items c.loop-class.class c.args.classes c.loop-class.invariant
          (ap (λ v. v.items) w.order-is ∙ w.in_ok-push.ensures.items) w.if-classes-class-eq1.true
      | else-classes-class-eq1 w ↦ ap (λ v. v.items) w.order-is ∙
          append_lacking c.args.order.now.items c.loop-class.order.items c.loop-class.class c.args.classes
          c.loop-class.invariant w.if-classes-class-eq1.false
    ]

pub returns : goal.returns
returns c = c.loop-class.invariant ∙
    ap (λ xs. c.args.order.now.items ++ xs) (classes_of-below c.loop-class.class c.args.classes (omega arith))
