use Rattle.std.proofs.Common.{rules}
use Rattle.pl_text.specs.Trees.{tree_of}
use Rattle.pl_names.specs.Names.{texts}
use Rattle.pl_check.proofs.SectionLemmas.{not_action}
use Rattle.pl_check.proofs.problem.read_one.Goals as goal

pub returns : goal.returns
returns c = (
  search rules,
  (
    search rules,
    not_action c.args.scope.now.text.now (texts c.args.earlier.now) (tree_of c.args.section)
        c.in_ok-key.ensures.0,
    search rules,
    search rules,
  ),
)
