use Rattle.std.proofs.Common.{◌≡◌, ◌++◌, map, take, drop}
use Rattle.pl_normal.specs.Scope.{renamed}
use Rattle.pl_normal.proofs.classes.merge.Given as goal

abbrev pub invariant-loop-k : goal.invariant-loop-k
invariant-loop-k l = l.classes ≡ map (renamed l.x l.y) (take l.k l.initial.classes)
    ++ drop l.k l.initial.classes
