use Rattle.std.proofs.Common.{◌∙◌}
use Rattle.pl_check.proofs.WordLemmas.{any_texts}
use Rattle.pl_check.proofs.words.is_among.Goals as goal

pub returns : goal.returns
returns c = c.is_one_of.ensures ∙ any_texts c.args.word.now c.args.words.now
