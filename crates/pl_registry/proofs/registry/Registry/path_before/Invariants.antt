use Rattle.std.proofs.Common.{◌≡◌, ◌<◌, ◌++◌, length, reverse}
use Rattle.pl_registry.specs.Registered.{registered_path}
use Rattle.pl_registry.proofs.registry.Registry.path_before.Given as goal

abbrev pub invariant-loop-at : goal.invariant-loop-at
invariant-loop-at l = record {
  within : l.at < length l.self.entries;
  path : registered_path l.self.entries l.fn.n ++ reverse l.fn.given.items ≡ registered_path l.self.entries
      l.at ++ reverse l.steps.items;
}

abbrev pub decreases-loop-at : goal.decreases-loop-at
decreases-loop-at l = l.at
