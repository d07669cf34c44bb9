-- The search as a whole: how it begins, and how it ends before or after its turns.
use Rattle.std.proofs.Common.{◌++◌, map, ◌≡◌, ◌<◌, ◌+◌, ◌-◌, ◌^◌, ℕ, suc, Bool, true, false, List, [], ◌∷◌}
use Rattle.std.proofs.Common.{length, Bor, Option, Some, None, Result, Ok, IfErr, refl, sym, ap, ◌∙◌, subst}
use Rattle.std.proofs.Common.{arith}
use Rattle.std.specs.Fn.{FnReturnsAt}
use Rattle.std.proofs.lemmas.List.{length-map}
use Rattle.std.proofs.lemmas.List.Sorted.{length_permutation}
use denote.Param.Members.{Shared}
use Rattle.pl_task.specs.declared.task.Task.{Task}
use Rattle.pl_task.specs.Instance.{Instance}
use Rattle.pl_task.specs.Goal.{is_goal}
use Rattle.pl_state.specs.StateOf.{state_in}
use Rattle.pl_registry.specs.StateSpace.{space_of}
use Rattle.pl_registry.specs.declared.ended.Ended.{Ended}
use Rattle.pl_registry.specs.declared.ended.Outcome.TheVariants as outcome
use Rattle.pl_registry.specs.Ending.{ended_by}
use Rattle.pl_registry.specs.Ending.Ending.{Found, Unsolvable}
use Rattle.pl_registry.specs.Registered.{Register, IsRegister, registered_at}
use Rattle.std.specs.BinaryHeap.{IsHeap, PopsGreatest}
use Rattle.std.specs.Ordering.{nat_cmp}
use Rattle.std.specs.List.Sorted.{IsPermutation}
use Rattle.pl_task.specs.Goal.{unmet}
use Rattle.pl_registry.specs.Fresh.{IsFresh}
use Rattle.pl_registry.specs.Held.{turns}
use Rattle.pl_registry.specs.HeldByRank.{HoldsBetweenRanked}
use Rattle.pl_registry.proofs.HoldingByRank.{begun, found_at_once, cut_at_once, closed_ending, stands_between}
use Rattle.pl_hooks.specs.Asked.{MayDrop, MayKeep}
use Rattle.pl_greedy.specs.Greedy.{IsBrokenOff}
use Rattle.pl_greedy.specs.Queue.{number_of}
use Rattle.pl_greedy.specs.UnderWay.{IsBetween, IsChosen, IsGreedyAfter, IsMoreKeys, AfterTurn}
use Rattle.pl_greedy.proofs.Queueing.{many_done, all_done, top_there, top_unexpanded, top_precedes, top_taken}
use Rattle.pl_greedy.proofs.Queueing.{queued_first}
use Rattle.pl_hooks.proofs.Firsts.{one_entry, goal_is, answered}
use Rattle.pl_hooks.proofs.Trials.{if_err}
use Rattle.pl_greedy.proofs.Within.{ended_so}

-- where one is taken there was one
pub some_wait : (keys rest : List ℕ) (x : ℕ) → IsPermutation keys (x ∷ rest) → 0 < length keys
some_wait keys rest x p = let e = length_permutation keys (x ∷ rest) p in omega (arith, e)

none_wait : (keys : List ℕ) → length keys ≡ 0 → keys ≡ []
none_wait [] e = refl
none_wait (x ∷ keys) e = absurd (omega (arith, e))

module _ {F : Type 0} (calls : Shared F (Bor (List ℕ) × Unit {0}) Bool) (task : Task) (cut : F)
    (first : Register) where
  -- as many entries as were expanded and as wait
  pub entries_are : (now : Register) (past keys : List ℕ) (expanded generated : ℕ)
      → IsBetween calls task cut first now past keys expanded generated →
      expanded + length keys ≡ length now.entries
  entries_are now past keys expanded generated b =
      let e = many_done (length now.entries) past (map number_of keys) b.queued.all in
      let l = length-map keys number_of in
      let m = b.many in omega (arith, e, l, m)

  -- the first one of those that wait is chosen
  pub chosen : (now : Register) (past keys rest : List ℕ) (x n expanded generated : ℕ)
      → IsBetween calls task cut first now past keys expanded generated → IsPermutation keys (x ∷ rest) →
      PopsGreatest nat_cmp keys x rest → n ≡ number_of x
      → IsChosen calls task cut first now past rest n expanded generated
  chosen now past keys rest x n expanded generated b popped greatest is =
      subst (λ k. IsChosen calls task cut first now past rest k expanded generated) (sym is)
      (record {
        many = b.many;
        uncut = b.uncut;
        turns_are = b.turns_are;
        limit = b.limit;
        there = top_there task now past x keys rest b.queued popped greatest;
        unexpanded = top_unexpanded task now past x keys rest b.queued popped greatest;
        precedes = top_precedes task now past x keys rest b.queued popped greatest;
        queued = top_taken task now past x keys rest b.queued popped greatest;
      })

  -- the search is one turn nearer to the limit
  pub nearer : (old new : Register) (past others keys more : List ℕ) (expanded generated g : ℕ) →
      IsBetween calls task cut first old past keys expanded generated →
      IsBetween calls task cut first new others more (expanded + 1) g → IsRegister old → 0 < length keys →
      new.limit - (expanded + 1) < old.limit - expanded
  nearer old new past others keys more expanded generated g a b register l =
      let few = register.few in let e = entries_are old past keys expanded generated a in
      omega (arith, a.limit, b.limit, few, l, e)

  -- one more count fits
  pub count_fits : (now : Register) (past keys : List ℕ) (expanded generated : ℕ)
      → IsBetween calls task cut first now past keys expanded generated →
      IsRegister now → 0 < length keys → expanded + 1 < 2 ^ 32
  count_fits now past keys expanded generated b register l =
      let few = register.few in let fits = register.fits in let e =
      entries_are now past keys expanded generated b in omega (arith, few, fits, e, l)

  -- after a turn that did not end the search it goes on, and else it has ended
  pub next_turn : (new : Register) (past keys : List ℕ) (expanded generated : ℕ) (answer : Option Ended)
      → answer ≡ None →
      AfterTurn calls task cut first {E = ℕ} new past keys expanded generated (Ok answer) →
      IsBetween calls task cut first new past keys (expanded + 1) generated
  next_turn new past keys expanded generated answer none h =
      subst (λ k. IsBetween calls task cut first new past keys k generated) (one_more expanded)
      (subst (λ (a : Option Ended). AfterTurn calls task cut first {E = ℕ} new past keys expanded generated
      (Ok a)) none h)
    where
      one_more : (k : ℕ) → suc k ≡ k + 1
      one_more k = omega arith

  pub turn_ends : (new : Register) (past keys : List ℕ) (expanded generated : ℕ) (answer : Option Ended)
      (ended : Ended) →
      answer ≡ Some ended → AfterTurn calls task cut first {E = ℕ} new past keys expanded generated
      (Ok answer) →
      IsGreedyAfter calls task cut first past new ended
  turn_ends new past keys expanded generated answer ended some h =
      subst (λ (a : Option Ended). AfterTurn calls task cut first {E = ℕ} new past keys expanded generated
      (Ok a)) some h

  -- every entry was expanded
  pub closed : (now : Register) (past keys : List ℕ) (expanded generated : ℕ) (ended : Ended) →
      ended ≡ ended_by outcome.Unsolvable (length now.entries) expanded generated → IsRegister now →
      length keys ≡ 0 → IsBetween calls task cut first now past keys expanded generated
      → IsGreedyAfter calls task cut first past now ended
  closed now past keys expanded generated ended is register none b =
      let all : IsPermutation (turns (length now.entries)) (past ++ []) =
      subst (λ (ks : List ℕ). IsPermutation (turns (length now.entries)) (past ++ map number_of ks))
      (none_wait keys none) b.queued.all in
      let many : length past ≡ length now.entries =
      (let e = many_done (length now.entries) past [] all in omega (arith, e)) in
      subst (λ (e : Ended). IsGreedyAfter calls task cut first past now e) (sym is)
      (ended_so calls task cut first past now.limit now now Unsolvable
      (record { states = length now.entries; expanded = length past; generated = generated })
      (ended_by outcome.Unsolvable (length now.entries) expanded generated)
      (closed_ending b.uncut b.turns_are register many
      (λ i l. all_done (length now.entries) i past all l))
      b.limit refl b.limit refl
      (ap (λ k. record { states = length now.entries; expanded = k; generated = generated }) b.many))

  module _ (fresh : IsFresh task first) where
    start : HoldsBetweenRanked task (space_of task) (MayDrop calls task cut) (MayKeep calls task cut)
        (unmet task) first [] 0
    start = begun first fresh.words fresh.entries_are fresh.state fresh.initially_is

    -- before the first turn
    pub wanting : IsBrokenOff calls task cut first first
    wanting = let h = stands_between start in
        record { of = h.of; stands = h.stands; holds = h.holds; limit = refl }

    pub wanting_from : {T E : Type 0} (result : Result T E) →
        IfErr result (λ (e : E). IsBrokenOff calls task cut first first)
    wanting_from result = if_err result (IsBrokenOff calls task cut first first) wanting

    -- the initial state is a goal state
    pub found_first : (other : Task) (words : List ℕ) (met : Bool) (plan : List Instance) (ended : Ended) →
        other ≡ task → words ≡ (registered_at first.entries 0).words →
        met ≡ is_goal other (state_in other words) →
        met ≡ true → plan ≡ [] → ended ≡ ended_by (outcome.Found plan) (length first.entries) 0 0
        → IsGreedyAfter calls task cut first [] first ended
    found_first other words met plan ended same read tested yes_it_is none is =
        subst (λ (e : Ended). IsGreedyAfter calls task cut first [] first e) (sym is)
        (ended_so calls task cut first [] first.limit first first (Found [])
        (record { states = 1; expanded = 0; generated = 0 })
        (ended_by (outcome.Found plan) (length first.entries) 0 0)
        (found_at_once first.limit first fresh.words fresh.entries_are fresh.initially_is
        (sym (goal_is fresh other words met same read tested) ∙ yes_it_is))
        refl refl refl (ap Found none)
        (ap (λ k. record { states = k; expanded = 0; generated = 0 }) (one_entry fresh)))

    -- it is none, and it is cut
    pub cut_first : (other : Task) (words again : List ℕ) (met answer : Bool) (ended : Ended) → other ≡ task →
        words ≡ (registered_at first.entries 0).words → met ≡ is_goal other (state_in other words) →
        met ≡ false → again ≡ (registered_at first.entries 0).words → FnReturnsAt calls cut again answer
        → answer ≡ true →
        ended ≡ ended_by outcome.Unsolvable (length first.entries) 0 0
        → IsGreedyAfter calls task cut first [] first ended
    cut_first other words again met answer ended same read tested none read_again answers is_cut is =
        subst (λ (e : Ended). IsGreedyAfter calls task cut first [] first e) (sym is)
        (ended_so calls task cut first [] first.limit first first Unsolvable
        (record { states = 1; expanded = 0; generated = 0 })
        (ended_by outcome.Unsolvable (length first.entries) 0 0)
        (cut_at_once first.limit first fresh.words fresh.entries_are fresh.initially_is
        (sym (goal_is fresh other words met same read tested) ∙ none)
        (answered fresh calls cut again answer true read_again answers is_cut))
        refl refl refl refl (ap (λ k. record { states = k; expanded = 0; generated = 0 }) (one_entry fresh)))

    -- it is none, and it is kept
    pub begins : (keys more : List ℕ) (same : Task) → same ≡ task → keys ≡ []
        → IsMoreKeys same first 0 keys more → IsHeap nat_cmp keys
        → (other : Task) (words again : List ℕ) (met answer : Bool) → other ≡ task →
        words ≡ (registered_at first.entries 0).words → met ≡ is_goal other (state_in other words) →
        met ≡ false → again ≡ (registered_at first.entries 0).words → FnReturnsAt calls cut again answer
        → answer ≡ false → IsBetween calls task cut first first [] more 0 0
    begins keys more task_again is_task emptied m heap other words again met answer same read tested none
        read_again answers kept =
        record {
          uncut = record {
            no_goal = sym (goal_is fresh other words met same read tested) ∙ none;
            kept = answered fresh calls cut again answer false read_again answers kept;
          };
          turns_are = start;
          limit = refl;
          many = refl;
          queued = queued_first task first more (one_entry fresh)
              (subst (λ (t : Task). IsMoreKeys t first 0 [] more) is_task
              (subst (λ (ks : List ℕ). IsMoreKeys task_again first 0 ks more) emptied m))
              (subst (IsHeap nat_cmp) emptied heap);
        }
