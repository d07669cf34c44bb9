-- Trying one step in a width search: what its cases come to.
use Rattle.std.proofs.Common.{◌≡◌, ℕ, Bool, true, false, IsFalse, List, [], ◌∷◌, ◌++◌, Contains, sym, ap, ◌∙◌}
use Rattle.std.proofs.Common.{subst, inl, Ok, Err}
use Rattle.std.proofs.lemmas.List.Elements.{All-contains}
use Rattle.pl_task.specs.Instance.{Instance}
use Rattle.pl_task.specs.declared.task.Task.{Task}
use Rattle.pl_task.specs.States.{State, result_of}
use Rattle.pl_task.specs.Goal.{is_goal}
use Rattle.pl_state.specs.StateOf.{state_in, IsStateOf}
use Rattle.pl_registry.specs.declared.added.Added.{Added}
use Rattle.pl_registry.specs.declared.added.Added.TheVariants as added
use Rattle.pl_registry.specs.declared.added.Refused.{Refused}
use Rattle.pl_registry.specs.declared.added.Refused.TheVariants as refused
use Rattle.pl_registry.specs.Novelty.{IsNovel, HasAll}
use Rattle.pl_registry.specs.Registered.{Register, registered_at, Adds}
use Rattle.pl_registry.specs.Held.{states_held}
use Rattle.pl_registry.proofs.Holding.{held_is_known}
use Rattle.pl_bfs.specs.declared.sieve.Sieve.{Sieve}
use Rattle.pl_hooks.specs.Trying.{target_of, IsTurnedAway}
use Rattle.pl_bfs.specs.Sifting.{NotesSeen, IsFoundNew, IsFoundStale, IsSiftedOut, IsSiftedIn, Sifts}

-- a state that was seen is not new
pub seen_is_stale : (task : Task) (k : ℕ) (seen : List State) (s : State) → Contains seen s
    → IsNovel task k seen s → ⊥
seen_is_stale task k seen s there novel = All-contains (λ t. HasAll t novel.atoms → ⊥) seen s novel.unseen
    there novel.has

module _ (task : Task) (k : ℕ) (old new : Register) (before after : Sieve) (n : ℕ) (step : Instance)
    (from next : List ℕ) (met : Bool)
    (read : from ≡ (registered_at old.entries n).words) (state : IsStateOf task next)
    (leads : state_in task next ≡ result_of task (state_in task from) step)
    (goal : met ≡ is_goal task (state_in task next)) (no_goal : met ≡ false) where
  is_target : state_in task next ≡ target_of task old n step
  is_target = leads ∙ ap (λ ws. result_of task (state_in task ws) step) read

  is_no_goal : IsFalse (is_goal task (target_of task old n step))
  is_no_goal = ap (is_goal task) (sym is_target) ∙ sym goal ∙ no_goal

  out_by : IsFoundStale task k old next before after → IsSiftedOut task k old old before after n step
  out_by h =
      let stale = subst (λ s. IsNovel task k (states_held task old) s → ⊥) is_target h.stale in
      record {
        left = record {
          words = next;
          state = state;
          target = is_target;
          no_goal = is_no_goal;
          why =
              inl stale;
          same = λ i. old;
        };
        stale = stale;
        notes = h.notes;
        told = h.told;
      }

  -- a state that is not new is left out
  pub left_out : (answer : Bool) → answer ≡ false → Sifts {E = ℕ} task k old next before after (Ok answer)
      → IsSiftedOut task k old old before after n step
  left_out answer missed h = out_by (subst (λ b. Sifts {E = ℕ} task k old next before after (Ok b)) missed h)

  module _ (answer : Bool) (is_new : answer ≡ true)
      (sifts : Sifts {E = ℕ} task k old next before after (Ok answer)) where
    found : IsFoundNew task k old next before after
    found = subst (λ b. Sifts {E = ℕ} task k old next before after (Ok b)) is_new sifts

    novel : IsNovel task k (states_held task old) (target_of task old n step)
    novel = subst (IsNovel task k (states_held task old)) is_target found.novel

    -- a new state was added
    pub taken_in : (a : Added) → Adds old new next n step (Ok a)
        → IsSiftedIn task k old new before after n step
    taken_in (added.Known i) (held, same) =
        absurd (seen_is_stale task k (states_held task old) (state_in task next)
        (held_is_known task old next i held) found.novel)
    taken_in (added.New i) (unheld, room, number, more) = record {
      taken = record {
        words = next;
        state = state;
        target = is_target;
        no_goal = is_no_goal;
        kept =
            novel;
        unheld = unheld;
        more = more;
      };
      notes = subst (λ s. NotesSeen task k (states_held task old ++ s ∷ []) after.novelty) is_target
          found.notes;
      same = found.same;
    }

    -- or there was no room for it
    pub turned_away : (r : Refused) → r ≡ refused.Full → Adds old new next n step (Err r)
        → IsTurnedAway (IsNovel task k (states_held task old)) task old new n step
    turned_away r is h =
        let (unheld, full, same) = subst (λ (x : Refused). Adds old new next n step (Err x)) is h in
        record {
          words = next;
          state = state;
          target = is_target;
          no_goal = is_no_goal;
          kept = novel;
          unheld =
              unheld;
          full = full;
          same = same;
        }
