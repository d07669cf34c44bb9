-- The initial state, as the registry of a search holds it before the first turn: whether it is a goal state,
-- and what the closure of a pruner may answer of it.
use Rattle.std.proofs.Common.{◌≡◌, ℕ, Bool, List, length, Bor, sym, ap, ◌∙◌, subst}
use Rattle.std.specs.Fn.{FnReturnsAt}
use denote.Param.Members.{Shared}
use Rattle.pl_task.specs.declared.task.Task.{Task}
use Rattle.pl_task.specs.States.{initial}
use Rattle.pl_task.specs.Goal.{is_goal}
use Rattle.pl_state.specs.StateOf.{state_in, IsStateOf}
use Rattle.pl_registry.specs.Fresh.{IsFresh}
use Rattle.pl_registry.specs.Registered.{Register, Registered, registered_at}
use Rattle.pl_hooks.specs.Asked.{MayAnswer}

module _ {task : Task} {first : Register} (fresh : IsFresh task first) where
  pub one_entry : length first.entries ≡ 1
  one_entry = ap length fresh.entries_are

  words_are : (words : List ℕ) → words ≡ (registered_at first.entries 0).words → words ≡ fresh.words
  words_are words read = read ∙ ap (λ (es : List Registered). (registered_at es 0).words) fresh.entries_are

  pub first_state : (words : List ℕ) → words ≡ (registered_at first.entries 0).words →
      state_in task words ≡ initial task
  first_state words read = ap (state_in task) (words_are words read) ∙ fresh.initially_is

  pub first_is_state : (words : List ℕ) → words ≡ (registered_at first.entries 0).words →
      IsStateOf task words
  first_is_state words read = subst (IsStateOf task) (sym (words_are words read)) fresh.state

  -- what the goal test of a task that is the same has told
  pub goal_is : (other : Task) (words : List ℕ) (met : Bool) → other ≡ task →
      words ≡ (registered_at first.entries 0).words → met ≡ is_goal other (state_in other words) →
      met ≡ is_goal task (initial task)
  goal_is other words met same read tested = tested ∙ ap (λ (t : Task). is_goal t (state_in t words)) same
      ∙ ap (is_goal task) (first_state words read)

  -- what the closure has answered
  pub answered : {F : Type 0} (calls : Shared F (Bor (List ℕ) × Unit {0}) Bool) (cut : F) (words : List ℕ)
      (answer same : Bool) → words ≡ (registered_at first.entries 0).words →
      FnReturnsAt calls cut words answer → answer ≡ same → MayAnswer calls task cut same (initial task)
  answered calls cut words answer same read answers is = (
    words,
    first_is_state words read,
    first_state words read,
    subst (λ b. FnReturnsAt calls cut words b) is answers,
  )
