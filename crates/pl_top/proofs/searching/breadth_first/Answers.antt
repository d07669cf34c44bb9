use Rattle.std.proofs.Common.{rules, ap}
use Rattle.pl_registry.specs.Registered.{Register}
use Rattle.pl_hooks.proofs.Cuts.{hopeless_cut_is_sound}
use Rattle.pl_top.proofs.SearchLemmas.{breadth_within, tells_hopeless}
use Rattle.pl_top.proofs.searching.breadth_first.Goals as goal

pub new-pruner-requires : goal.new-pruner-requires
new-pruner-requires g c =
    hopeless_cut_is_sound _ _ _
    (tells_hopeless _ _ _ (λ s is. search rules) (λ s b is says. search (rules, says)))

pub returns-clause-ended : goal.returns-clause-ended
returns-clause-ended g c =
    breadth_within _ c.args.task.now c.in_ok-normal.normal _ _ c.args.limit c.in_ok-registry.registry
    c.breadth.new.registry _ _ (c.in_ok-normal.ensures)
    (ap (λ (r : Register). r.limit) c.in_ok-registry.ensures)
    c.breadth.result c.breadth.ensures.ended c.breadth.ensures.cost c.new-pruner.ensures.cut
    (tells_hopeless _ _ _ (λ s is. search rules) (λ s b is says. search (rules, says)))
