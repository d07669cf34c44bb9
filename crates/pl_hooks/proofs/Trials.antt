-- Trying one step: the states of a registry, what the cases of a trial come to, and that no entry is lost.
use Rattle.std.proofs.Common.{◌≡◌, ◌⊎◌, ◌<◌, ℕ, Bool, false, IsFalse, List, [], length, All, Bor}
use Rattle.std.proofs.Common.{Option, Some, None, Result, Ok, Err, IfErr, sym, ap, ◌∙◌, subst, inl, inr}
use Rattle.std.specs.Fn.{FnReturnsAt}
use denote.Param.Members.{Shared}
use Rattle.pl_task.specs.Instance.{Instance}
use Rattle.pl_task.specs.declared.task.Task.{Task}
use Rattle.pl_task.specs.States.{result_of}
use Rattle.pl_task.specs.Goal.{is_goal}
use Rattle.pl_state.specs.StateOf.{state_in, IsStateOf}
use Rattle.pl_registry.specs.declared.added.Added.{Added}
use Rattle.pl_registry.specs.declared.added.Added.TheVariants as added
use Rattle.pl_registry.specs.declared.ended.Outcome.{Outcome}
use Rattle.pl_registry.specs.declared.ended.Outcome.TheVariants as outcome
use Rattle.pl_registry.specs.Probes.{KeepsEntries}
use Rattle.pl_registry.specs.Registered.{Register, Registered, registered_at, initially, Adds}
use Rattle.pl_registry.proofs.Bounds.{kept_same, kept_more}
use Rattle.pl_hooks.specs.Sound.{IsSoundCut, IsUnmetCount}
use Rattle.pl_hooks.specs.Asked.{MayDrop, MayKeep}
use Rattle.pl_hooks.specs.Trying.{target_of, IsLeftOut, IsTakenIn, Tries}

-- a registered state is a state of the task
pub state_held : (task : Task) (r : Register) (n : ℕ) (words : List ℕ) →
    All (λ (e : Registered). IsStateOf task e.words) r.entries → n < length r.entries →
    words ≡ (registered_at r.entries n).words → IsStateOf task words
state_held task r n words all l is = subst (IsStateOf task) (sym is) (all n (initially []) l)

-- a closure that is sound for a task
pub sound_for : {F : Type 0} (calls : Shared F (Bor (List ℕ) × Unit {0}) Bool) (task other : Task) (cut : F) →
    other ≡ task → IsSoundCut calls task cut → IsSoundCut calls other cut
sound_for calls task other cut same sound = subst (λ (t : Task). IsSoundCut calls t cut) (sym same) sound

-- a closure that counts for a task
pub counts_for : {F : Type 0} (calls : Shared F (Bor (List ℕ) × Unit {0}) ℕ) (task other : Task) (rank : F) →
    other ≡ task → IsUnmetCount calls task rank → IsUnmetCount calls other rank
counts_for calls task other rank same counts = subst (λ (t : Task). IsUnmetCount calls t rank)
    (sym same) counts

-- an error clause of a result that is an error
pub if_err : {T E : Type 0} (result : Result T E) (P : Type 0) → P → IfErr result (λ (e : E). P)
if_err (Ok x) P p = tt
if_err (Err e) P p = p

module _ {F : Type 0} (calls : Shared F (Bor (List ℕ) × Unit {0}) Bool) (task : Task) (cut : F)
    (old new : Register) (n : ℕ) (step : Instance) (from next : List ℕ) (met answer : Bool)
    (read : from ≡ (registered_at old.entries n).words) (state : IsStateOf task next)
    (leads : state_in task next ≡ result_of task (state_in task from) step)
    (goal : met ≡ is_goal task (state_in task next)) (no_goal : met ≡ false)
    (answers : FnReturnsAt calls cut next answer) (kept : answer ≡ false) where
  is_target : state_in task next ≡ target_of task old n step
  is_target = leads ∙ ap (λ ws. result_of task (state_in task ws) step) read

  is_no_goal : IsFalse (is_goal task (target_of task old n step))
  is_no_goal = ap (is_goal task) (sym is_target) ∙ sym goal ∙ no_goal

  -- a state that is no goal state and is kept was added, or was held
  pub taken_or_held : (a : Added) → Adds old new next n step (Ok a) →
      IsLeftOut (MayDrop calls task cut) task old new n step
      ⊎ IsTakenIn (MayKeep calls task cut) task old new n step
  taken_or_held (added.Known k) (held, same) =
      inl (record {
        words = next;
        state = state;
        target = is_target;
        no_goal = is_no_goal;
        why =
            inr (k, held);
        same = same;
      })
  taken_or_held (added.New k) (unheld, room, number, more) =
      inr (record {
        words = next;
        state = state;
        target = is_target;
        no_goal = is_no_goal;
        kept = (next, state, is_target, subst (λ b. FnReturnsAt calls cut next b) kept answers);
        unheld = unheld;
        more = more;
      })

-- all entries are kept
pub tried_keeps : {F : Type 0} (calls : Shared F (Bor (List ℕ) × Unit {0}) Bool) (task : Task) (cut : F)
    (old new : Register) (n : ℕ) (step : Instance) (answer : Option Outcome) →
    Tries calls task cut old new n step {E = ℕ} (Ok answer) → KeepsEntries old new
tried_keeps calls task cut old new n step None (inl h) = kept_same old new h.same
tried_keeps calls task cut old new n step None (inr h) = kept_more old new h.words n step h.more
tried_keeps calls task cut old new n step (Some (outcome.Found plan)) h = kept_same old new h.same
tried_keeps calls task cut old new n step (Some outcome.Limit) h = kept_same old new h.same
tried_keeps calls task cut old new n step (Some outcome.Unsolvable) h = absurd h
