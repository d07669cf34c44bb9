use Rattle.std.proofs.Common.{◌≡◌, ◌++◌, map}
use Rattle.pl_check.specs.Reading.{numbered_in, as_parameter}
use Rattle.pl_check.proofs.actions.parameters_of_items.Given as goal

-- the parameters of the items so far
abbrev pub invariant-loop-item : goal.invariant-loop-item
invariant-loop-item l =
    (l.parameters.items ≡ map as_parameter (map numbered_in l.yielded)) ×
    (l.yielded ++ l.item-iterator.rest.items ≡ l.fn.items.items)
