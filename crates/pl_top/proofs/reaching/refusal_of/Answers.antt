use Rattle.pl_top.proofs.ReachLemmas.{valid_lines, missing_lines}
use Rattle.pl_top.proofs.reaching.refusal_of.Goals as goal

pub returns-in-Valid : goal.returns-in-Valid
returns-in-Valid c = valid_lines c.args.task.now c.args.lines.now c.in_ok-judge.field-0 c.in-Valid.field-0
    c.in-Valid.is c.in_ok-judge.ensures

pub returns-in-GoalMissed : goal.returns-in-GoalMissed
returns-in-GoalMissed c = missing_lines c.args.task.now c.args.lines.now c.in_ok-judge.field-0
    c.in-GoalMissed.is c.in_ok-judge.ensures
