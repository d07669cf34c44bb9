use Rattle.pl_top.proofs.WorkLemmas.{memory_nothing}
use Rattle.pl_top.proofs.making.solve.Goals as goal

pub returns-in-Err-clause-work : goal.returns-in-Err-clause-work
returns-in-Err-clause-work g c = λ says. absurd (memory_nothing _ c.refuse.ensures.status says)
