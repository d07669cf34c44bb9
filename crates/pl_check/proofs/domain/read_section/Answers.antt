use Rattle.pl_text.specs.Trees.{tree_of}
use Rattle.pl_check.proofs.DomainLemmas.{few_rest}
use Rattle.pl_check.proofs.domain.read_section.Goals as goal

pub check_section-requires-clause-inside : goal.check_section-requires-clause-inside
check_section-requires-clause-inside c =
    few_rest 1 (tree_of c.args.section.now) c.parts.result.now c.rest.result.now c.requires
    c.parts.ensures c.rest.ensures
