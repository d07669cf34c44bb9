use Rattle.pl_join.proofs.Gathering.{gathered_more, gathered_skip}
use Rattle.pl_join.proofs.selection.gather.Goals as goal

pub returns-in-None : goal.returns-in-None
returns-in-None c = λ done g. gathered_skip _ done _ _ _ g c.in-None.ensures.none

pub returns-in_ok-push-in-Some-2 : goal.returns-in_ok-push-in-Some-2
returns-in_ok-push-in-Some-2 c = λ done g.
    rw (c.in_ok-push-in-Some.ensures.ok, c.in_ok-push-in-Some-2.ensures.ok)
    (gathered_more _ done _ _ _ _ g c.in-Some.ensures.place)
