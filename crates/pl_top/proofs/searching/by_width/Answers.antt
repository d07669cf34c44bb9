use Rattle.std.proofs.Common.{ap}
use Rattle.pl_registry.specs.Registered.{Register}
use Rattle.pl_top.proofs.SearchLemmas.{width_within}
use Rattle.pl_top.proofs.searching.by_width.Goals as goal

pub returns-clause-ended : goal.returns-clause-ended
returns-clause-ended g c = λ by of.
    width_within c.args.task.now c.in_ok-normal.normal by c.args.k c.args.limit c.in_ok-registry.registry
    c.width.new.registry _ _
    (c.in_ok-normal.ensures) (ap (λ (r : Register). r.limit) c.in_ok-registry.ensures) of c.width.result
    c.width.ensures.ended c.width.ensures.cost
