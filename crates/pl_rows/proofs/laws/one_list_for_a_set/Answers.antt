use Rattle.pl_rows.proofs.Canonical.{same_rows}
use Rattle.pl_rows.proofs.laws.one_list_for_a_set.Goals as goal

pub returns : goal.returns
returns c = same_rows
