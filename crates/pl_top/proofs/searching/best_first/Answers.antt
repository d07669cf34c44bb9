use Rattle.std.proofs.Common.{rules, ap, sym, subst, ◌≡◌, ◌∙◌}
use Rattle.pl_task.specs.Goal.{unmet}
use Rattle.pl_state.specs.StateOf.{state_in}
use Rattle.pl_registry.specs.Registered.{Register}
use Rattle.pl_hooks.proofs.Cuts.{hopeless_cut_is_sound}
use Rattle.pl_top.proofs.SearchLemmas.{counts_so, greedy_within, tells_hopeless}
use Rattle.pl_top.proofs.searching.best_first.Goals as goal

pub new-ranker-requires : goal.new-ranker-requires
new-ranker-requires g c = record {
  callable = λ s is. search rules;
  counts = λ s n is says. subst (λ t. n ≡ unmet c.args.task.now (state_in c.args.task.now t)) says.shows
      (search (rules, says.says));
}

pub greedy-requires-clause-counts : goal.greedy-requires-clause-counts
greedy-requires-clause-counts g c =
    counts_so _ _ _ _ (c.new-ranker.ensures.task ∙ sym c.in_ok-normal.ensures) c.new-ranker.ensures.counts

pub new-pruner-requires : goal.new-pruner-requires
new-pruner-requires g c =
    hopeless_cut_is_sound _ _ _
    (tells_hopeless _ _ _ (λ s is. search rules) (λ s b is says. search (rules, says)))

pub returns-clause-ended : goal.returns-clause-ended
returns-clause-ended g c =
    greedy_within _ c.args.task.now c.in_ok-normal.normal _ _ c.args.limit c.in_ok-registry.registry
    c.greedy.new.registry _ _ (c.in_ok-normal.ensures)
    (ap (λ (r : Register). r.limit) c.in_ok-registry.ensures)
    c.greedy.result c.greedy.ensures.ended c.greedy.ensures.cost c.new-pruner.ensures.cut
    (tells_hopeless _ _ _ (λ s is. search rules) (λ s b is says. search (rules, says)))
