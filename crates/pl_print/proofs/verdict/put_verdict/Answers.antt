use Rattle.pl_print.proofs.verdict.put_verdict.Goals as goal

pub returns-in-GoalMissed-clause-front : goal.returns-in-GoalMissed-clause-front
returns-in-GoalMissed-clause-front g c = rw c.in-GoalMissed.is c.put_pieces-in-GoalMissed.ensures.front
