use Rattle.std.proofs.Common.{◌≡◌, true, take}
use Rattle.pl_join.specs.Source.{passes_all}
use Rattle.pl_join.proofs.selection.passes.Given as goal

abbrev pub invariant-loop-test : goal.invariant-loop-test
invariant-loop-test l = passes_all (take l.test-index l.tests) l.row ≡ true
