use Rattle.std.proofs.Common.{◌≡◌, ℕ, List, Bor, subst, sym, ◌∙◌, rules}
use denote.Param.Members.{Shared}
use Rattle.pl_task.specs.declared.task.Task.{Task}
use Rattle.pl_task.specs.Goal.{unmet}
use Rattle.pl_state.specs.StateOf.{state_in}
use Rattle.pl_hooks.specs.Sound.{IsUnmetCount}
use Rattle.pl_search_tests.proofs.greedy.is_met.Goals as goal

-- what a closure counts for a task it counts for the same one
counts_so : {F : Type 0} (calls : Shared F (Bor (List ℕ) × Unit {0}) ℕ) (task same : Task) (rank : F)
    → task ≡ same →
    IsUnmetCount calls task rank → IsUnmetCount calls same rank
counts_so calls task same rank is h = subst (λ (t : Task). IsUnmetCount calls t rank) is h

pub greedy-requires-clause-counts : goal.greedy-requires-clause-counts
greedy-requires-clause-counts g c =
    counts_so _ _ _ _ (c.new-ranker.ensures.task ∙ sym c.in_ok-normal.ensures) c.new-ranker.ensures.counts

pub new-ranker-requires : goal.new-ranker-requires
new-ranker-requires g c = record {
  callable = λ s is. search rules;
  counts = λ s n is says. subst
      (λ t. n ≡ unmet c.in_ok-task.task (state_in c.in_ok-task.task t)) says.shows
      (search (rules, says.says));
}
