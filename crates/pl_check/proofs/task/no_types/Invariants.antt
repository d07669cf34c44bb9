use Rattle.std.proofs.Common.{◌≡◌, [], replicate}
use Rattle.pl_check.specs.Gathering.{lists_in}
use Rattle.pl_check.proofs.task.no_types.Given as goal

abbrev pub invariant-loop : goal.invariant-loop
invariant-loop l = lists_in l.lists.items ≡ replicate l.counter []
