use Rattle.pl_check.specs.Elements.{trees}
use Rattle.pl_check.proofs.KnownLemmas.{known_made}
use Rattle.pl_check.proofs.known.collect.Goals as goal

pub returns : goal.returns
returns c =
    known_made c.args.domain.now c.args.problem.now (trees c.args.domain_sections.now)
    (trees c.args.problem_sections.now)
    (trees c.first_section.result.now) (trees c.first_section-2.result.now)
    (trees c.first_section-3.result.now)
    (trees c.first_section-declarations.result.now)
    c.in_ok-types.types c.in_ok-objects.objects c.in_ok-predicates.predicates c.in_ok-predicates.arities.items
    c.first_section.ensures.section c.first_section-2.ensures.section c.first_section-3.ensures.section
    c.first_section-declarations.ensures.section
    c.in_ok-types.ensures c.in_ok-objects.ensures c.in_ok-predicates.ensures.names
    c.in_ok-predicates.ensures.arities
