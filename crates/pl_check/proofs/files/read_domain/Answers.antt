use Rattle.pl_check.specs.declared.role.FileRole.TheVariants as role_of
use Rattle.pl_check.specs.Elements.{trees}
use Rattle.pl_check.proofs.OpeningLemmas.{opens_refuses, few_found, short_found}
use Rattle.pl_check.proofs.files.read_domain.Goals as goal

pub returns-in-Err : goal.returns-in-Err
returns-in-Err c =
    opens_refuses role_of.Domain c.args.text.now c.args.known.now (trees c.args.forms.now) c.read_file.result
    c.in-Err.end
    c.in-Err.is (c.read_file.ensures c.args.known.now)

pub read_domain_sections-requires-clause-few : goal.read_domain_sections-requires-clause-few
read_domain_sections-requires-clause-few c =
    short_found (trees c.args.forms.now) c.in-Ok.sections.now c.requires.few
    (c.in-Ok.ensures c.args.known.now).are

pub read_domain_sections-requires-clause-inside : goal.read_domain_sections-requires-clause-inside
read_domain_sections-requires-clause-inside c =
    few_found (trees c.args.forms.now) c.in-Ok.sections.now c.requires.few
    (c.in-Ok.ensures c.args.known.now).are
