-- The search as a whole: how it begins, and how it ends before or after its turns.
use Rattle.std.proofs.Common.{◌≡◌, ◌<◌, ◌≤◌, ◌+◌, ◌-◌, ℕ, suc, Bool, true, false, List, [], length, Bor}
use Rattle.std.proofs.Common.{Option, Some, None, Result, Ok, IfErr, refl, sym, ap, ◌∙◌, subst, arith}
use Rattle.std.specs.Fn.{FnReturnsAt}
use Rattle.std.proofs.lemmas.List.{length-map}
use denote.Param.Members.{Shared}
use Rattle.pl_task.specs.declared.task.Task.{Task}
use Rattle.pl_task.specs.Instance.{Instance}
use Rattle.pl_task.specs.Goal.{is_goal}
use Rattle.pl_state.specs.StateOf.{state_in}
use Rattle.pl_registry.specs.StateSpace.{space_of}
use Rattle.pl_registry.specs.declared.ended.Ended.{Ended}
use Rattle.pl_registry.specs.declared.ended.Outcome.TheVariants as outcome
use Rattle.pl_registry.specs.Ending.{ended_by}
use Rattle.pl_registry.specs.Ending.Ending.{Found, Unsolvable}
use Rattle.pl_registry.specs.Registered.{Register, IsRegister, registered_at, entry_of}
use Rattle.pl_bfs.specs.Breadth.{MayDrop, MayKeep, IsFresh, IsBreadth, IsBrokenOff}
use Rattle.pl_registry.specs.Held.{HoldsBetweenTurns}
use Rattle.pl_bfs.specs.UnderWay.{IsBetween, AfterTurn}
use Rattle.pl_registry.proofs.ByNumber.{turns_fit}
use Rattle.pl_registry.proofs.Holding.{begun, found_at_once, cut_at_once, closed_ending, stands_between}
use Rattle.pl_hooks.proofs.Firsts.{one_entry, goal_is, answered}
use Rattle.pl_hooks.proofs.Trials.{if_err}
use Rattle.pl_bfs.proofs.Within.{ended_so}

module _ {F : Type 0} (calls : Shared F (Bor (List ℕ) × Unit {0}) Bool) (task : Task) (cut : F)
    (first : Register) where
  -- a search between two turns has at least as many entries as turns
  pub turns_few : (now : Register) (n generated : ℕ) → IsBetween calls task cut first now n generated →
      n ≤ length now.entries
  turns_few now n generated b =
      let there = turns_fit b.turns.at in
      let many = ap length b.turns.holds.entries_are in
      let same = length-map now.entries (entry_of task) in
      omega (arith, there, many, same)

  -- it is one turn nearer to the limit
  pub nearer : (old new : Register) (n generated more : ℕ) → IsBetween calls task cut first old n generated →
      IsBetween calls task cut first new (n + 1) more → IsRegister old → n < length old.entries →
      new.limit - (n + 1) < old.limit - n
  nearer old new n generated more a b register l = let few = register.few in
      omega (arith, a.limit, b.limit, few, l)

  -- after a turn that did not end the search it goes on, and else it has ended
  pub next_turn : (new : Register) (n generated : ℕ) (answer : Option Ended) → answer ≡ None →
      AfterTurn calls task cut first {E = ℕ} new n generated (Ok answer) →
      IsBetween calls task cut first new (n + 1) generated
  next_turn new n generated answer none h =
      subst (λ k. IsBetween calls task cut first new k generated) (one_more n)
      (subst (λ (a : Option Ended). AfterTurn calls task cut first {E = ℕ} new n generated (Ok a)) none h)
    where
      one_more : (k : ℕ) → suc k ≡ k + 1
      one_more k = omega arith

  pub turn_ends : (new : Register) (n generated : ℕ) (answer : Option Ended) (ended : Ended) →
      answer ≡ Some ended → AfterTurn calls task cut first {E = ℕ} new n generated (Ok answer) →
      IsBreadth calls task cut first new ended
  turn_ends new n generated answer ended some h =
      subst (λ (a : Option Ended). AfterTurn calls task cut first {E = ℕ} new n generated (Ok a)) some h

  -- every entry was expanded
  pub closed : (now : Register) (n generated : ℕ) (ended : Ended) →
      ended ≡ ended_by outcome.Unsolvable (length now.entries) n generated → IsRegister now →
      (n < length now.entries → ⊥) →
      IsBetween calls task cut first now n generated → IsBreadth calls task cut first now ended
  closed now n generated ended is register last b =
      subst (λ (e : Ended). IsBreadth calls task cut first now e) (sym is)
      (ended_so calls task cut first now.limit now now Unsolvable
      (record { states = length now.entries; expanded = n; generated = generated })
      (ended_by outcome.Unsolvable (length now.entries) n generated)
      (closed_ending b.uncut b.turns register
      (whole n (length now.entries) (turns_few now n generated b) last))
      b.limit refl b.limit refl refl)
    where
      whole : (n m : ℕ) → n ≤ m → (n < m → ⊥) → n ≡ m
      whole n m l none = grind (arith, none)

  module _ (fresh : IsFresh task first) where
    start : HoldsBetweenTurns task (space_of task) (λ _. MayDrop calls task cut)
        (λ _. MayKeep calls task cut) first 0 0
    start = begun first fresh.words fresh.entries_are fresh.state fresh.initially_is

    -- before the first turn
    pub wanting : IsBrokenOff calls task cut first first
    wanting = let h = stands_between start in
        record { of = h.of; stands = h.stands; holds = h.holds; limit = refl }

    pub wanting_from : {T E : Type 0} (result : Result T E) →
        IfErr result (λ (e : E). IsBrokenOff calls task cut first first)
    wanting_from result = if_err result (IsBrokenOff calls task cut first first) wanting

    -- the initial state is a goal state
    pub found_first : (other : Task) (words : List ℕ) (met : Bool) (plan : List Instance) (ended : Ended) →
        other ≡ task → words ≡ (registered_at first.entries 0).words →
        met ≡ is_goal other (state_in other words) →
        met ≡ true → plan ≡ [] → ended ≡ ended_by (outcome.Found plan) (length first.entries) 0 0
        → IsBreadth calls task cut first first ended
    found_first other words met plan ended same read tested yes_it_is none is =
        subst (λ (e : Ended). IsBreadth calls task cut first first e) (sym is)
        (ended_so calls task cut first first.limit first first (Found [])
        (record { states = 1; expanded = 0; generated = 0 })
        (ended_by (outcome.Found plan) (length first.entries) 0 0)
        (found_at_once first.limit first fresh.words fresh.entries_are fresh.initially_is
        (sym (goal_is fresh other words met same read tested) ∙ yes_it_is))
        refl refl refl (ap Found none)
        (ap (λ k. record { states = k; expanded = 0; generated = 0 }) (one_entry fresh)))

    -- it is none, and it is cut
    pub cut_first : (other : Task) (words again : List ℕ) (met answer : Bool) (ended : Ended) → other ≡ task →
        words ≡ (registered_at first.entries 0).words → met ≡ is_goal other (state_in other words) →
        met ≡ false → again ≡ (registered_at first.entries 0).words → FnReturnsAt calls cut again answer
        → answer ≡ true →
        ended ≡ ended_by outcome.Unsolvable (length first.entries) 0 0
        → IsBreadth calls task cut first first ended
    cut_first other words again met answer ended same read tested none read_again answers is_cut is =
        subst (λ (e : Ended). IsBreadth calls task cut first first e) (sym is)
        (ended_so calls task cut first first.limit first first Unsolvable
        (record { states = 1; expanded = 0; generated = 0 })
        (ended_by outcome.Unsolvable (length first.entries) 0 0)
        (cut_at_once first.limit first fresh.words fresh.entries_are fresh.initially_is
        (sym (goal_is fresh other words met same read tested) ∙ none)
        (answered fresh calls cut again answer true read_again answers is_cut))
        refl refl refl refl (ap (λ k. record { states = k; expanded = 0; generated = 0 }) (one_entry fresh)))

    -- it is none, and it is kept
    pub begins : (other : Task) (words again : List ℕ) (met answer : Bool) → other ≡ task →
        words ≡ (registered_at first.entries 0).words → met ≡ is_goal other (state_in other words) →
        met ≡ false → again ≡ (registered_at first.entries 0).words → FnReturnsAt calls cut again answer
        → answer ≡ false → IsBetween calls task cut first first 0 0
    begins other words again met answer same read tested none read_again answers kept =
        record {
          uncut = record {
            no_goal = sym (goal_is fresh other words met same read tested) ∙ none;
            kept = answered fresh calls cut again answer false read_again answers kept;
          };
          turns = start;
          limit = refl;
        }
