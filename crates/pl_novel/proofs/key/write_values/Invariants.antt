use Rattle.std.proofs.Common.{◌≡◌, ◌++◌, map, take}
use Rattle.pl_task.specs.States.{value_of}
use Rattle.pl_novel.proofs.key.write_values.Given as goal

abbrev pub invariant-loop-i : goal.invariant-loop-i
invariant-loop-i l = l.words.items ≡ l.fn.words.items ++ map (value_of l.args) (take l.i l.terms)
