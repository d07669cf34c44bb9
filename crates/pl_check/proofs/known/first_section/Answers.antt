use Rattle.pl_check.proofs.KnownLemmas.{few_after, few_inside_after}
use Rattle.pl_check.proofs.known.first_section.Goals as goal

pub returns-then-eq-clause-few : goal.returns-then-eq-clause-few
returns-then-eq-clause-few c =
    few_after c.args.sections.now c.loop-section.section-index c.section-item.result
    c.parts-then-eq.result.now
    c.rest.result.now c.loop-section-test.true c.section-item.is c.parts-then-eq.ensures c.rest.ensures

pub returns-then-eq-clause-inside : goal.returns-then-eq-clause-inside
returns-then-eq-clause-inside c =
    few_inside_after c.args.sections.now c.loop-section.section-index c.section-item.result
    c.parts-then-eq.result.now
    c.rest.result.now c.loop-section-test.true c.section-item.is c.parts-then-eq.ensures c.rest.ensures
