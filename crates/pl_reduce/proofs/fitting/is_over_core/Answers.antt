use Rattle.std.proofs.Common.{◌≡◌, ◌∙◌, sym}
use Rattle.std.proofs.lemmas.Slice.Eq.{bytes_eq-Decides}
use Rattle.pl_reduce.specs.Plan.{core_order}
use Rattle.pl_reduce.proofs.EdgeSets.{core_of_set}
use Rattle.pl_reduce.proofs.fitting.is_over_core.Goals as goal

pub returns : goal.returns
returns c =
    let core : c.as_slice.result.now ≡ core_order c.args.plan.now =
    c.as_slice.ensures.value ∙ c.in_ok-core.ensures
    ∙ core_of_set c.args.plan.now c.deref.result.now c.edges.result.now c.core.result.now
    c.held_by-held.result (c.deref.ensures.value ∙ c.in_ok-order.ensures.order) c.edges.ensures.edges
    c.core.ensures.core c.held_by-held.ensures in
    let same = bytes_eq-Decides c.args.classes.now c.as_slice.result.now in
    (λ h. same.0 (sym c.eq.ensures ∙ h) ∙ core, λ e. c.eq.ensures ∙ same.1 (e ∙ sym core))
