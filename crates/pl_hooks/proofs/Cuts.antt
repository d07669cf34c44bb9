-- Closures that are fit for a pruner, and what a search cuts by them.
use Rattle.std.proofs.Common.{◌≡◌, ◌⊎◌, ℕ, Bool, true, false, List, inl, inr, refl, subst}
use Rattle.std.proofs.lemmas.Bool.{cases_Bool, false≢true}
use Rattle.std.specs.Borrow.{Bor}
use denote.Param.Members.{Shared}
use Rattle.pl_task.specs.declared.task.Task.{Task}
use Rattle.pl_task.specs.States.{State}
use Rattle.pl_state.specs.StateOf.{state_in}
use Rattle.pl_registry.specs.Cut.{IsCut, IsKept}
use Rattle.pl_registry.specs.Laws.{CutsDeadEnds}
use Rattle.pl_hooks.specs.Asked.{MayDrop, MayKeep}
use Rattle.pl_hooks.specs.Hopeless.{is_hopeless}
use Rattle.pl_hooks.specs.Sound.{IsSoundCut, IsHopelessCut}
use Rattle.pl_hooks.proofs.DeadEnds.{hopeless_reaches_no_goal}
use Rattle.pl_hooks.proofs.Deciding.{is_hopeless-decides}

-- a closure that says which states are hopeless cuts only states from which no goal is reachable
pub hopeless_cut_is_sound : {F : Type 0} (calls : Shared F (Bor (List ℕ) × Unit {0}) Bool) (task : Task)
    (cut : F) → IsHopelessCut calls task cut → IsSoundCut calls task cut
hopeless_cut_is_sound calls task cut h = record {
  callable = h.callable;
  sound = λ s is returned. hopeless_reaches_no_goal task (state_in task s)
      ((h.answers s true is returned).0 refl);
  one_answer = λ s is yes_returned no_returned. false≢true
      ((h.answers s false is no_returned).1 ((h.answers s true is yes_returned).0 refl));
}

-- from what the test of hopeless states cuts no goal state is reachable
pub hopeless_dead_ends : (task : Task) → CutsDeadEnds task (is_hopeless task)
hopeless_dead_ends task s cut = hopeless_reaches_no_goal task s ((is_hopeless-decides task s).0 cut)

module _ {F : Type 0} (calls : Shared F (Bor (List ℕ) × Unit {0}) Bool) (task : Task) (cut : F)
    (h : IsHopelessCut calls task cut) where
  -- what such a closure lets a search drop is what the test cuts, and what it lets it keep is what the test
  -- keeps
  pub drops_hopeless : (s : State) → MayDrop calls task cut s → IsCut (is_hopeless task) s
  drops_hopeless s (words, is, same, says) =
      subst (IsCut (is_hopeless task)) same
      ((is_hopeless-decides task (state_in task words)).1 ((h.answers words true is says).0 refl))

  pub keeps_hopeful : (s : State) → MayKeep calls task cut s → IsKept (is_hopeless task) s
  keeps_hopeful s (words, is, same, says) =
      subst (IsKept (is_hopeless task)) same (kept (cases_Bool (is_hopeless task (state_in task words))))
    where
      kept : (is_hopeless task (state_in task words) ≡ true)
          ⊎ (is_hopeless task (state_in task words) ≡ false) →
          is_hopeless task (state_in task words) ≡ false
      kept (inl hopeless) =
          absurd (false≢true ((h.answers words false is says).1
          ((is_hopeless-decides task (state_in task words)).0 hopeless)))
      kept (inr hopeful) = hopeful
