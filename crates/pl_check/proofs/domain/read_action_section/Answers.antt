use Rattle.pl_text.specs.Trees.{tree_of}
use Rattle.pl_check.proofs.DomainLemmas.{few_rest, action_reads}
use Rattle.pl_check.proofs.domain.read_action_section.Goals as goal

pub read_action-requires : goal.read_action-requires
read_action-requires c =
    few_rest 2 (tree_of c.args.section.now) c.parts-elements.result.now c.rest-2.result.now c.requires
    c.parts-elements.ensures
    c.rest-2.ensures

pub returns : goal.returns
returns c = action_reads _ _ _ _ c.parts-elements.result.now c.rest.result.now c.rest-2.result.now
    c.head-name.result.now _
    c.in_ok-check_action_name.ensures.0 c.parts-elements.ensures c.rest.ensures c.rest-2.ensures
    c.head-name.ensures c.read_action.ensures
