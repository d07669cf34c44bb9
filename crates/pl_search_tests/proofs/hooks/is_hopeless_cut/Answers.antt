use Rattle.std.proofs.Common.{rules}
use Rattle.pl_hooks.proofs.Cuts.{hopeless_cut_is_sound}
use Rattle.pl_search_tests.proofs.hooks.is_hopeless_cut.Goals as goal

pub new-pruner-requires : goal.new-pruner-requires
new-pruner-requires c = hopeless_cut_is_sound _ _ _ (search rules)
