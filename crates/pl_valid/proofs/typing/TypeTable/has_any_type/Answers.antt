use Rattle.std.proofs.Common.{sym, ◌∙◌, take_all}
use Rattle.std.proofs.lemmas.Bool.{false≢true}
use Rattle.std.proofs.lemmas.List.Elements.{All-more, All-same}
use Rattle.pl_task.specs.Types.{HasType}
use Rattle.pl_valid.proofs.StepLemmas.{none_any}
use Rattle.pl_valid.proofs.typing.TypeTable.has_any_type.Goals as goal

pub loop-type_number-preserved : goal.loop-type_number-preserved
loop-type_number-preserved c = (
  All-more (λ t. HasType c.args.task.now c.args.object t → ⊥) c.args.types.now
      c.loop-type_number.type_number-index 0 c.loop-type_number-test.true
      c.loop-type_number.invariant.0 (λ h. false≢true (sym c.if-branch.false ∙
      c.in_ok-has_type.ensures.decides.1 h)),
  c.in_ok-has_type.ensures.known,
)

pub returns-clause-decides : goal.returns-clause-decides
returns-clause-decides c = (
  (λ h. absurd (false≢true h)),
  (λ h. absurd (none_any (HasType c.args.task.now c.args.object) c.args.types.now
      (All-same (λ t. HasType c.args.task.now c.args.object t →
      ⊥) _ _ (sym (take_all c.loop-type_number.type_number-index c.args.types.now
      c.loop-type_number-test.false)) c.loop-type_number.invariant.0) h)),
)
