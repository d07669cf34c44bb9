use Rattle.std.proofs.Common.{◌≡◌, take}
use Rattle.std.specs.List.{list_any}
use Rattle.pl_text.specs.Words.{is_capital}
use Rattle.pl_text.proofs.words.has_capital.Given as goal

abbrev pub invariant-loop-b : goal.invariant-loop-b
invariant-loop-b l = l.found ≡ list_any is_capital (take l.b-index l.word)
