-- A width search as a whole: how it begins, and how it ends before or after its turns.
use Rattle.std.proofs.Common.{◌≡◌, ◌<◌, ◌≤◌, ◌+◌, ◌-◌, ℕ, suc, Bool, true, false, List, [], ◌∷◌, length}
use Rattle.std.proofs.Common.{Option, Some, None, Result, Ok, IfErr, refl, sym, ap, ◌∙◌, subst, inl, arith}
use Rattle.std.proofs.lemmas.List.{length-map}
use Rattle.pl_task.specs.declared.task.Task.{Task}
use Rattle.pl_task.specs.Instance.{Instance}
use Rattle.pl_task.specs.Goal.{is_goal}
use Rattle.pl_state.specs.StateOf.{state_in}
use Rattle.pl_registry.specs.StateSpace.{space_of}
use Rattle.pl_registry.specs.SearchRecord.{states_of}
use Rattle.pl_registry.specs.declared.ended.Ended.{Ended}
use Rattle.pl_registry.specs.declared.ended.Stats.{Stats}
use Rattle.pl_registry.specs.declared.ended.Outcome.TheVariants as outcome
use Rattle.pl_registry.specs.Ending.{Ending, ending_of, record_at_once, stats_of, ended_by}
use Rattle.pl_registry.specs.Ending.Ending.{Found, Unsolvable, Exhausted}
use Rattle.pl_registry.specs.Novelty.{IsNovel, IsStale}
use Rattle.pl_registry.specs.Registered.{Register, IsRegister, registered_at, entry_of}
use Rattle.pl_registry.specs.Held.{states_held, HoldsBetweenTurns}
use Rattle.pl_registry.proofs.ByNumber.{turns_fit}
use Rattle.pl_registry.proofs.Holding.{begun, under_way, is_closed, first_entries}
use Rattle.pl_bfs.specs.declared.sieve.Sieve.{Sieve}
use Rattle.pl_bfs.specs.declared.width_ended.WidthEnded.{WidthEnded}
use Rattle.pl_bfs.specs.Breadth.{IsFresh}
use Rattle.pl_bfs.specs.Width.{ending_of_width, EndsByWidth, IsWidth, IsWidthBrokenOff}
use Rattle.pl_bfs.specs.Sifting.{NotesSeen, IsLeftBehind, TellsLeftOut, IsSiftedBetween, AfterSiftedTurn}
use Rattle.pl_bfs.specs.Sifting.{closed_by, stats_by}
use Rattle.pl_hooks.proofs.Firsts.{first_state, goal_is}
use Rattle.pl_hooks.proofs.Trials.{if_err}
use Rattle.pl_bfs.proofs.SiftedTurns.{ended_so}

-- an ending by an outcome of a width search
pub is_width : (task : Task) (k : ℕ) (first new : Register) (ending : Ending) (stats : Stats)
    (ended : WidthEnded) → EndsByWidth task k first new ending stats →
    ending_of_width ended.outcome ≡ ending → ended.stats ≡ stats → IsWidth task k first new ended
is_width task k first new ending stats ended h e c =
    subst (λ (s : Stats). EndsByWidth task k first new (ending_of_width ended.outcome) s) (sym c)
    (subst (λ (a : Ending). EndsByWidth task k first new a stats) (sym e) h)

module _ (task : Task) (k : ℕ) (first : Register) where
  -- a search between two turns has at least as many entries as turns
  pub turns_few : (now : Register) (n generated : ℕ) (sieve : Sieve)
      → IsSiftedBetween task k first now n generated sieve → n ≤ length now.entries
  turns_few now n generated sieve b =
      let there = turns_fit b.turns.at in
      let many = ap length b.turns.holds.entries_are in
      let same = length-map now.entries (entry_of task) in
      omega (arith, there, many, same)

  -- it is one turn nearer to the limit
  pub nearer : (old new : Register) (n generated more : ℕ) (before after : Sieve)
      → IsSiftedBetween task k first old n generated before →
      IsSiftedBetween task k first new (n + 1) more after → IsRegister old → n < length old.entries →
      new.limit - (n + 1) < old.limit - n
  nearer old new n generated more before after a b register l = let few = register.few in
      omega (arith, a.limit, b.limit, few, l)

  one_on : (n : ℕ) → suc n ≡ n + 1
  one_on n = omega arith

  -- after a turn that did not end the search it goes on, and else it has ended
  pub next_turn : (new : Register) (n generated : ℕ) (sieve : Sieve) (answer : Option Ended) → answer ≡ None →
      AfterSiftedTurn task k first {E = ℕ} new n generated sieve (Ok answer)
      → IsSiftedBetween task k first new (n + 1) generated sieve
  next_turn new n generated sieve answer none h =
      subst (λ m. IsSiftedBetween task k first new m generated sieve) (one_on n)
      (subst (λ (a : Option Ended). AfterSiftedTurn task k first {E = ℕ} new n generated sieve (Ok a)) none h)

  pub turn_ends : (new : Register) (n generated : ℕ) (sieve : Sieve) (answer : Option Ended) (ended : Ended)
      (result : WidthEnded) → answer ≡ Some ended →
      AfterSiftedTurn task k first {E = ℕ} new n generated sieve (Ok answer)
      → ending_of_width result.outcome ≡ ending_of ended.outcome → result.stats ≡ ended.stats →
      IsWidth task k first new result
  turn_ends new n generated sieve answer ended result some h e c =
      is_width task k first new (ending_of ended.outcome) ended.stats result
      (subst (λ (a : Option Ended). AfterSiftedTurn task k first {E = ℕ} new n generated sieve (Ok a))
      some h) e c

  -- every entry was expanded
  all_expanded : (now : Register) (n generated : ℕ) (sieve : Sieve) (flag : Bool) → sieve.left_out ≡ flag
      → IsRegister now → n ≡ length now.entries →
      IsSiftedBetween task k first now n generated sieve
      → EndsByWidth task k first now (closed_by flag) (stats_by (length now.entries) n generated)
  all_expanded now n generated sieve false is register whole b =
      ended_so task k first now now Unsolvable Unsolvable (stats_by (length now.entries) n generated)
      (stats_by (length now.entries) n generated) b.turns.of (
        under_way b.no_goal b.turns.at.stands b.turns.holds register.few,
        is_closed b.turns whole,
        subst (λ f. TellsLeftOut task k b.turns.of f) is b.told,
      )
      b.turns.holds.entries_are refl b.limit refl refl
  all_expanded now n generated sieve true is register whole b =
      let behind : IsLeftBehind task k b.turns.of = subst (λ f. TellsLeftOut task k b.turns.of f) is b.told in
      ended_so task k first now now Exhausted Exhausted (stats_by (length now.entries) n generated)
      (stats_by (length now.entries) n generated) b.turns.of (
        under_way b.no_goal b.turns.at.stands b.turns.holds register.few,
        is_closed b.turns whole,
        (behind.pair, behind.tried, behind.unknown),
      )
      b.turns.holds.entries_are refl b.limit refl refl

  pub closed : (now : Register) (n generated : ℕ) (sieve : Sieve) (result : WidthEnded)
      → ending_of_width result.outcome ≡ closed_by sieve.left_out →
      result.stats ≡ stats_by (length now.entries) n generated → IsRegister now → (n < length now.entries → ⊥)
      → IsSiftedBetween task k first now n generated sieve →
      IsWidth task k first now result
  closed now n generated sieve result e c register last b =
      is_width task k first now (closed_by sieve.left_out) (stats_by (length now.entries) n generated) result
      (all_expanded now n generated sieve sieve.left_out refl register
      (whole n (length now.entries) (turns_few now n generated sieve b) last) b) e c
    where
      whole : (n m : ℕ) → n ≤ m → (n < m → ⊥) → n ≡ m
      whole n m few last = grind (arith, few, last)

  module _ (fresh : IsFresh task first) where
    start : HoldsBetweenTurns task (space_of task) (IsStale task k) (IsNovel task k) first 0 0
    start = begun first fresh.words fresh.entries_are fresh.state fresh.initially_is

    wanting : IsWidthBrokenOff task k first first
    wanting = record {
      of = start.of;
      stands = start.at.stands;
      holds = start.holds.entries_are;
      limit =
          refl;
    }

    -- memory ran out before the first turn
    pub wanting_from : {T E : Type 0} (result : Result T E)
        → IfErr result (λ (e : E). IsWidthBrokenOff task k first first)
    wanting_from result = if_err result (IsWidthBrokenOff task k first first) wanting

    held_first : (words : List ℕ) → words ≡ (registered_at first.entries 0).words
        → state_in task words ∷ [] ≡ states_held task first
    held_first words read = ap (λ s. s ∷ []) (first_state fresh words read)
        ∙ sym (ap states_of
        (first_entries task (space_of task) first fresh.words fresh.entries_are fresh.initially_is))

    -- the initial state is a goal state
    pub found_first : (other : Task) (words : List ℕ) (met : Bool) (plan : List Instance) (ended : Ended)
        (result : WidthEnded) → other ≡ task →
        words ≡ (registered_at first.entries 0).words → met ≡ is_goal other (state_in other words)
        → met ≡ true → plan ≡ [] →
        ended ≡ ended_by (outcome.Found plan) (length first.entries) 0 0
        → ending_of_width result.outcome ≡ ending_of ended.outcome → result.stats ≡ ended.stats →
        IsWidth task k first first result
    found_first other words met plan ended result same read tested yes_it_is none is e c =
        is_width task k first first (Found plan) (stats_by (length first.entries) 0 0) result
        (ended_so task k first first first (Found plan) (Found []) (stats_by (length first.entries) 0 0)
        (stats_of 1 0 0) (record_at_once (space_of task))
        (inl (
          sym (goal_is fresh other words met same read tested) ∙ yes_it_is,
          refl,
          record { is = refl; stats_are = refl },
        ))
        (first_entries task (space_of task) first fresh.words fresh.entries_are fresh.initially_is) refl refl
        (ap Found none)
        (ap (λ n. stats_by n 0 0) (ap length fresh.entries_are)))
        (e ∙ ap (λ (d : Ended). ending_of d.outcome) is) (c ∙ ap (λ (d : Ended). d.stats) is)

    -- it is none, and is seen
    pub begins : (other : Task) (words again : List ℕ) (met : Bool) (sieve : Sieve) (third : Task)
        → other ≡ task → third ≡ task → words ≡ (registered_at first.entries 0).words →
        met ≡ is_goal other (state_in other words) → met ≡ false
        → again ≡ (registered_at first.entries 0).words →
        NotesSeen third k (state_in third again ∷ []) sieve.novelty → sieve.left_out ≡ false
        → IsSiftedBetween task k first first 0 0 sieve
    unfolding begun start
    begins other words again met sieve third same too read tested none read_again notes unset = record {
      no_goal = sym (goal_is fresh other words met same read tested) ∙ none;
      turns = start;
      told = subst (λ f. TellsLeftOut task k (record_at_once (space_of task)) f) (sym unset)
          (λ i d l. absurd (omega arith));
      notes = subst (λ seen. NotesSeen task k seen sieve.novelty) (held_first again read_again)
          (subst (λ (t : Task). NotesSeen t k (state_in t again ∷ []) sieve.novelty) too notes);
      limit = refl;
    }
