use Rattle.pl_text.proofs.CapitalLemmas.{capital_more}
use Rattle.pl_text.proofs.words.has_capital.Goals as goal

pub loop-b-preserved : goal.loop-b-preserved
loop-b-preserved c =
    capital_more c.args.word.now c.loop-b.b-index c.loop-b.found c.is_ascii_uppercase-found.result
    c.loop-b-test.true c.loop-b.invariant c.is_ascii_uppercase-found.ensures.value
