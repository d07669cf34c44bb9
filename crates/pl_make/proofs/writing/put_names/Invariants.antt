use Rattle.std.proofs.Common.{◌≡◌, ◌++◌}
use Rattle.pl_make.specs.Texts.{names_text}
use Rattle.pl_make.proofs.writing.put_names.Given as goal

abbrev pub invariant-loop-i : goal.invariant-loop-i
invariant-loop-i l = l.text.items ≡ l.fn.text.items ++ names_text l.letter l.i
