use Rattle.std.proofs.Common.{sym, ◌∙◌}
use Rattle.pl_text.proofs.CapitalLemmas.{folded-small}
use Rattle.pl_text.proofs.words.small_copy.Goals as goal

pub returns-then-not-has_capital : goal.returns-then-not-has_capital
returns-then-not-has_capital c =
    folded-small c.args.word.now (sym c.has_capital.ensures ∙ c.if-not-has_capital.true)
