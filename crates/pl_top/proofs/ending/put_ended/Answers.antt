use Rattle.pl_io.proofs.Gathering.{front_of_next}
use Rattle.pl_top.proofs.ResultLemmas.{on_err_weaker}
use Rattle.pl_top.proofs.ending.put_ended.Goals as goal

pub returns-clause-front : goal.returns-clause-front
returns-clause-front g c =
    on_err_weaker _ _ c.put_counts.result
    (front_of_next _ _ _ _ _ c.in_ok-put_outcome.ensures.all)
    c.put_counts.ensures.front
