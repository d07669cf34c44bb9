use Rattle.pl_join.proofs.Loops.{kept_is}
use Rattle.pl_join.proofs.filters.keeps.Goals as goal

pub returns-clause-kept : goal.returns-clause-kept
returns-clause-kept g c = kept_is c.args.keep _ _ _ _ _ _ c.look_at.ensures c.is_there.ensures.has
    c.takes.ensures
