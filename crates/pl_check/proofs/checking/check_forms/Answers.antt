use Rattle.std.proofs.Common.{length, ap, ◌∙◌}
use Rattle.pl_check.specs.Elements.{trees}
use Rattle.pl_check.specs.Known.{sections}
use Rattle.pl_check.proofs.CheckingLemmas.{sections_few, problem_refused, parts_ok, listed_parts}
use Rattle.pl_check.proofs.CheckingLemmas.{states_parts, checked}
use Rattle.pl_check.proofs.PlacedLemmas.{forms_few}
use Rattle.pl_check.proofs.checking.check_forms.Goals as goal

pub collect-requires-clause-domain : goal.collect-requires-clause-domain
collect-requires-clause-domain c =
    sections_few (length c.args.domain.now) c.args.domain_forms.now _ c.requires.domain c.requires.in_domain
    c.sections-domain_sections.ensures

pub collect-requires-clause-problem : goal.collect-requires-clause-problem
collect-requires-clause-problem c =
    sections_few (length c.args.problem.now) c.args.problem_forms.items _ c.requires.problem
    c.requires.in_problem
    (c.sections-problem_sections.ensures ∙ ap (λ fs. sections (trees fs)) c.as_slice.ensures.value)

pub read_domain-requires-clause-few : goal.read_domain-requires-clause-few
read_domain-requires-clause-few c =
    forms_few (length c.args.domain.now) c.args.domain_forms.now c.requires.domain c.requires.in_domain

pub returns-in-Err-read_problem : goal.returns-in-Err-read_problem
returns-in-Err-read_problem c =
    problem_refused c.args.domain.now c.args.problem.now (trees c.args.domain_forms.now)
    (trees c.args.problem_forms.items) (trees c.sections-domain_sections.result.now)
    (trees c.sections-problem_sections.result.now) c.in-Ok.known c.in-Err-read_problem.end
    c.end_in-in-Err-read_problem.result c.sections-domain_sections.ensures
    (c.sections-problem_sections.ensures ∙ ap (λ fs. sections (trees fs)) c.as_slice.ensures.value)
    c.in-Ok.ensures c.end_in-in-Err-read_problem.ensures c.in-Ok-read_domain.ensures.0
    c.in-Err-read_problem.ensures

pub task_of-requires : goal.task_of-requires
task_of-requires c =
    listed_parts c.in-Ok-lists_of.lists.types.items _ c.in-Ok-lists_of.lists.objects.items _ _ _ _ _
    c.in-Ok-lists_of.ensures.types c.in-Ok-lists_of.ensures.objects
    (parts_ok c.args.domain.now c.args.problem.now c.args.domain_forms.now c.args.problem_forms.items
    (trees c.sections-domain_sections.result.now) (trees c.sections-problem_sections.result.now) c.in-Ok.known
    c.in-Ok-read_domain.schemas.items c.in-Ok-read_problem.stated.init.items
    c.in-Ok-read_problem.stated.goal.items c.requires.domain c.requires.problem c.requires.in_domain
    c.requires.in_problem c.sections-domain_sections.ensures
    (c.sections-problem_sections.ensures ∙ ap (λ fs. sections (trees fs)) c.as_slice.ensures.value)
    c.in-Ok.ensures c.in-Ok-read_domain.ensures.0 c.in-Ok-read_problem.ensures.0
    c.in-Ok-read_domain.ensures.1 c.in-Ok-read_problem.ensures.1.0 c.in-Ok-read_problem.ensures.1.1)

pub returns-in-Ok-task_of : goal.returns-in-Ok-task_of
returns-in-Ok-task_of c =
    let in_problem = c.sections-problem_sections.ensures ∙
    ap (λ fs. sections (trees fs)) c.as_slice.ensures.value in
    checked c.args.domain.now c.args.problem.now (trees c.args.domain_forms.now)
    (trees c.args.problem_forms.items) (trees c.sections-domain_sections.result.now)
    (trees c.sections-problem_sections.result.now) c.in-Ok.known c.in-Ok-task_of.task
    c.sections-domain_sections.ensures in_problem c.in-Ok.ensures
    c.in-Ok-read_domain.ensures.0 c.in-Ok-read_problem.ensures.0
    (states_parts c.args.domain.now c.args.problem.now (trees c.args.domain_forms.now)
    (trees c.args.problem_forms.items) (trees c.sections-domain_sections.result.now)
    (trees c.sections-problem_sections.result.now) c.in-Ok.known c.in-Ok-lists_of.lists.types.items
    c.in-Ok-lists_of.lists.objects.items c.in-Ok-read_domain.schemas.items
    c.in-Ok-read_problem.stated.init.items c.in-Ok-read_problem.stated.goal.items c.in-Ok-task_of.task
    c.sections-domain_sections.ensures in_problem c.in-Ok-lists_of.ensures.types
    c.in-Ok-lists_of.ensures.objects
    c.in-Ok-read_domain.ensures.1 c.in-Ok-read_problem.ensures.1.0 c.in-Ok-read_problem.ensures.1.1
    c.in-Ok-task_of.ensures)
