use Rattle.std.proofs.Common.{rules}
use Rattle.pl_names.specs.Entries.{key_of}
use Rattle.pl_names.proofs.entries.key_of.Goals as goal

pub returns : goal.returns
unfolding key_of
returns c = search rules
