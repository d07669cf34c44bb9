use Rattle.std.proofs.Common.{refl, arith, length}
use Rattle.std.proofs.lemmas.Iterator.{items_from_collect, YieldsList-from_range}
use Rattle.pl_hyper.proofs.removal.all_numbers.Goals as goal

pub returns : goal.returns
returns c = items_from_collect c.collect.result c.collect.ensures.ran
    (YieldsList-from_range 0 (length c.args.edges.now) (length c.args.edges.now) refl (omega arith))
