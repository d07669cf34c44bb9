use Rattle.std.proofs.Common.{ap, ◌∙◌, refl}
use Rattle.std.proofs.lemmas.Bool.{false≢true}
use Rattle.pl_samples.proofs.Cases.{one_more, none_more}
use Rattle.pl_samples.proofs.parts.atoms.Goals as goal
use Rattle.pl_samples.proofs.parts.atoms.Goals.{then-is_atom+in_ok-atom+in_ok-push, else-is_atom}

pub loop-predicate-preserved : goal.loop-predicate-preserved
loop-predicate-preserved c = elim c.if-is_atom.branch [
  | then-is_atom+in_ok-atom+in_ok-push w ↦
      one_more c.args.task.now c.args.cases.now c.loop-predicate.predicate-index _ _ _ _
      c.loop-predicate-test.true (w.if-is_atom.ensures.0 refl) w.in_ok-atom.ensures
      c.loop-predicate.invariant (ap (λ v. v.items) w.made-is ∙ w.in_ok-push.ensures.items)
  | else-is_atom w ↦
      none_more c.args.task.now c.args.cases.now c.loop-predicate.predicate-index _ _ _
      c.loop-predicate-test.true (λ fits. false≢true (w.if-is_atom.ensures.1 fits))
      c.loop-predicate.invariant (ap (λ v. v.items) w.made-is)
]
