use Rattle.pl_top.proofs.MakingLemmas.{lines_within}
use Rattle.pl_top.proofs.making.verdict_on.Goals as goal

pub judge-requires-clause-lines : goal.judge-requires-clause-lines
judge-requires-clause-lines c =
    lines_within c.args.task.now c.args.steps.now c.in_ok-lines.lines.items c.deref.result.now
    c.requires.steps
    c.in_ok-lines.ensures c.deref.ensures.value
