use Rattle.pl_top.proofs.ending.put_outcome.Goals as goal

pub returns-in-Unsolvable-clause-front : goal.returns-in-Unsolvable-clause-front
returns-in-Unsolvable-clause-front g c = rw c.in-Unsolvable.is c.put_all.ensures.front

pub returns-in-Exhausted-clause-front : goal.returns-in-Exhausted-clause-front
returns-in-Exhausted-clause-front g c = rw c.in-Exhausted.is c.put_all-in-Exhausted.ensures.front
