-- From a search over a registry to how a search ends that cuts hopeless states, and to what it took.
use Rattle.std.proofs.Common.{◌≡◌, ◌↔◌, ℕ, ◌≤◌, ◌+◌, Bool, IsTrue, List, inl, inr, sym, subst, Result, Ok}
use Rattle.std.proofs.Common.{Err, IfOk}
use Rattle.std.specs.Borrow.{Bor}
use Rattle.std.specs.Fn.{FnReturns}
use Rattle.std.proofs.lemmas.List.Elements.{All-weaker}
use denote.Param.Members.{Shared}
use Rattle.pl_task.specs.declared.task.Task.{Task}
use Rattle.pl_task.specs.Goal.{IsHopeless, unmet}
use Rattle.pl_task.specs.States.{State}
use Rattle.pl_state.specs.StateOf.{IsStateOf, state_in}
use Rattle.pl_gen.specs.Walks.{AreAcyclic}
use Rattle.pl_registry.specs.declared.ended.Ended.{Ended}
use Rattle.pl_hooks.specs.Hopeless.{is_hopeless}
use Rattle.pl_registry.specs.declared.ended.Stats.{Stats}
use Rattle.pl_registry.specs.Cut.{IsCut, IsKept}
use Rattle.pl_registry.specs.declared.search.Search.{Search}
use Rattle.pl_registry.specs.declared.search.Search.TheVariants as search
use Rattle.pl_registry.specs.Ending.{Ending, IsEnding, IsEndingOf, IsWidthEnding, IsUncut, IsFull, by_number}
use Rattle.pl_registry.specs.Ending.{ending_of}
use Rattle.pl_registry.specs.Ending.Ending.{Found, Unsolvable, Exhausted, Limit}
use Rattle.pl_registry.specs.Registered.{Register}
use Rattle.pl_registry.specs.SearchRecord.{SearchRecord, IsRecordUpTo, pair_at}
use Rattle.pl_registry.specs.StateSpace.{StateSpace, space_of}
use Rattle.pl_hooks.specs.Sound.{IsHopelessCut, IsUnmetCount}
use Rattle.pl_hooks.proofs.Cuts.{drops_hopeless, keeps_hopeful}
use Rattle.pl_bfs.specs.Breadth.{IsBreadth, MayDrop, MayKeep, search_bound}
use Rattle.pl_bfs.specs.Width.{IsWidth, ending_of_width}
use Rattle.pl_bfs.specs.declared.width_ended.WidthEnded.{WidthEnded}
use Rattle.pl_greedy.specs.Greedy.{IsGreedy}
use Rattle.pl_top.specs.Ended.{IsSearchedWithin}
use Rattle.pl_top.specs.Searching.{IsOfWidth}

-- what may be dropped and what kept leads to what else may be
module _ (space : StateSpace) (D K D' K' : State → Type 0) (drops : (s : State) → D s → D' s)
    (keeps : (s : State) → K s → K' s)
    (rank : State → ℕ) (limit : ℕ) (r : SearchRecord) (stats : Stats) where
  stands_weaker : IsRecordUpTo space (λ _. D) (λ _. K) rank r → IsRecordUpTo space (λ _. D') (λ _. K') rank r
  stands_weaker h = record {
    made = h.made;
    begun = h.begun;
    entries_are = h.entries_are;
    rising = h.rising;
    within = h.within;
    distinct = h.distinct;
    no_goal = h.no_goal;
    dropped_or_known = λ m l. elim (h.dropped_or_known m l) [
      | inl dropped ↦ inl (drops (pair_at r.pairs m).target dropped)
      | inr known ↦ inr known
    ];
    kept = All-weaker (λ m. K (pair_at r.pairs m).target) (λ m. K' (pair_at r.pairs m).target)
        (λ m. keeps (pair_at r.pairs m).target) h.made h.kept;
    in_order = h.in_order;
  }

  uncut_weaker : IsUncut space D K rank limit r → IsUncut space D' K' rank limit r
  uncut_weaker (kept, way) = (
    keeps space.initial kept,
    record { no_goal = way.no_goal; few = way.few; stands = stands_weaker way.stands },
  )

  full_weaker : IsFull space (λ _. K) limit r stats → IsFull space (λ _. K') limit r stats
  full_weaker h = record {
    at = h.at;
    next = h.next;
    no_goal = h.no_goal;
    unknown = h.unknown;
    kept = keeps h.at.target h.kept;
    full = h.full;
    stats_are = h.stats_are;
  }

  pub ending_weaker : (ending : Ending) → IsEnding space D K rank limit r ending stats
      → IsEnding space D' K' rank limit r ending stats
  ending_weaker (Found plan) (inl h) = inl h
  ending_weaker (Found plan) (inr (uncut, found)) = inr (uncut_weaker uncut, found)
  ending_weaker Unsolvable (inl (goal, dropped, once)) = inl (goal, drops space.initial dropped, once)
  ending_weaker Unsolvable (inr (uncut, closed)) = inr (uncut_weaker uncut, closed)
  ending_weaker Exhausted h = h
  ending_weaker Limit (uncut, full) = (uncut_weaker uncut, full_weaker full)

-- a closure that asks the test of hopeless states says which are hopeless
pub tells_hopeless : {F : Type 0} (calls : Shared F (Bor (List ℕ) × Unit {0}) Bool) (task : Task) (cut : F)
    → ((s : Bor (List ℕ)) → IsStateOf task s.now → calls.pre cut (s, tt))
    → ((s : Bor (List ℕ)) (b : Bool) → IsStateOf task s.now → FnReturns calls cut (s, tt) b
    → IsTrue b ↔ IsHopeless task (state_in task s.now))
    → IsHopelessCut calls task cut
tells_hopeless calls task cut callable answers = record {
  callable = callable;
  answers = λ s b is says. subst (λ t. IsTrue b ↔ IsHopeless task (state_in task t)) says.shows
      (answers says.shown b (subst (IsStateOf task) (sym says.shows) is) says.says);
}

-- a search whose closure says which states are hopeless ends as one that cuts these
cut_ends : {F : Type 0} (calls : Shared F (Bor (List ℕ) × Unit {0}) Bool) (task over : Task) (given cut : F)
    (rank : Task → State → ℕ) (most limit : ℕ) (r : SearchRecord) (ending : Ending) (stats : Stats)
    → over ≡ task → most ≡ limit → given ≡ cut → IsHopelessCut calls task cut
    → IsEnding (space_of over) (MayDrop calls over given) (MayKeep calls over given) (rank over) most r ending
    stats
    → IsEnding (space_of task) (IsCut (is_hopeless task)) (IsKept (is_hopeless task)) (rank task) limit r
    ending stats
cut_ends calls task over given cut rank most limit r ending stats same fits is says h =
    let told : IsHopelessCut calls over given =
    subst (λ (t : Task). IsHopelessCut calls t given) (sym same)
    (subst (IsHopelessCut calls task) (sym is) says) in
    subst (λ (t : Task). IsEnding (space_of t) (IsCut (is_hopeless t)) (IsKept (is_hopeless t)) (rank t) limit
    r ending stats) same
    (subst (λ l. IsEnding (space_of over) (IsCut (is_hopeless over)) (IsKept (is_hopeless over)) (rank over) l
    r ending stats) fits
    (ending_weaker (space_of over) (MayDrop calls over given) (MayKeep calls over given)
    (IsCut (is_hopeless over)) (IsKept (is_hopeless over))
    (drops_hopeless calls over given told) (keeps_hopeful calls over given told) (rank over) most r stats
    ending h))

-- how a search ended and what it took, where its answer has a record
searched_within : {T E : Type 0} (task over : Task) (by : Search) (limit before after : ℕ)
    (ending : T → Ending) (stats : T → Stats) (Is : T → Type 0) (of : (ended : T) → Is ended → SearchRecord)
    → ((ended : T) (h : Is ended) →
    IsEndingOf task (is_hopeless task) by limit (of ended h) (ending ended) (stats ended))
    → over ≡ task → (result : Result T E) → IfOk result Is
    → IfOk result (λ ended. AreAcyclic over → (h : Is ended) → after ≤ before + search_bound over (of ended h))
    → IfOk result (λ ended. IsSearchedWithin task by limit (ending ended) (stats ended) before after)
searched_within task over by limit before after ending stats Is of ends same (Ok ended) h cost =
    let r = of ended h in (
      record { of = r; ends = ends ended h },
      record {
        ending = ending ended;
        stats = stats ended;
        of = r;
        ends = ends ended h;
        cost = subst (λ (t : Task). AreAcyclic t → after ≤ before + search_bound t r) same
            (λ acyclic. cost acyclic h);
      },
    )
searched_within task over by limit before after ending stats Is of ends same (Err e) h cost = tt

-- breadth-first search whose closure says which states are hopeless is the search that cuts these
pub breadth_within : {F E : Type 0} (calls : Shared F (Bor (List ℕ) × Unit {0}) Bool) (task over : Task)
    (given cut : F) (limit : ℕ) (old new : Register) (before after : ℕ) → over ≡ task → old.limit ≡ limit
    → (result : Result Ended E) → IfOk result (IsBreadth calls over given old new)
    → IfOk result (λ ended. AreAcyclic over → (h : IsBreadth calls over given old new ended)
    → after ≤ before + search_bound over h.of)
    → given ≡ cut → IsHopelessCut calls task cut
    → IfOk result (λ ended.
    IsSearchedWithin task search.Bfs limit (ending_of ended.outcome) ended.stats before after)
breadth_within calls task over given cut limit old new before after same fits result h cost is says =
    searched_within task over search.Bfs limit before after (λ (e : Ended). ending_of e.outcome)
    (λ (e : Ended). e.stats) (IsBreadth calls over given old new) (λ e b. b.of)
    (λ e b. cut_ends calls task over given cut (λ _. by_number) old.limit limit b.of (ending_of e.outcome)
    e.stats same fits is says b.ending) same result h cost

-- and so is greedy best-first search
pub greedy_within : {F E : Type 0} (calls : Shared F (Bor (List ℕ) × Unit {0}) Bool) (task over : Task)
    (given cut : F) (limit : ℕ) (old new : Register) (before after : ℕ) → over ≡ task → old.limit ≡ limit
    → (result : Result Ended E) → IfOk result (IsGreedy calls over given old new)
    → IfOk result (λ ended. AreAcyclic over → (h : IsGreedy calls over given old new ended)
    → after ≤ before + search_bound over h.of)
    → given ≡ cut → IsHopelessCut calls task cut
    → IfOk result (λ ended.
    IsSearchedWithin task search.Gbfs limit (ending_of ended.outcome) ended.stats before after)
greedy_within calls task over given cut limit old new before after same fits result h cost is says =
    searched_within task over search.Gbfs limit before after (λ (e : Ended). ending_of e.outcome)
    (λ (e : Ended). e.stats) (IsGreedy calls over given old new) (λ e b. b.of)
    (λ e b. cut_ends calls task over given cut unmet old.limit limit b.of (ending_of e.outcome) e.stats same
    fits is says b.ending) same result h cost

-- what a closure counts for a task it counts for the same one
pub counts_so : {F : Type 0} (calls : Shared F (Bor (List ℕ) × Unit {0}) ℕ) (task same : Task) (rank : F)
    → task ≡ same →
    IsUnmetCount calls task rank → IsUnmetCount calls same rank
counts_so calls task same rank is h = subst (λ (t : Task). IsUnmetCount calls t rank) is h

-- a width search is the one by its width
module _ (task : Task) (limit : ℕ) (r : SearchRecord) (ending : Ending) (stats : Stats) where
  width_by : (by : Search) (k : ℕ) → IsOfWidth by k
      → IsWidthEnding (space_of task) task k limit r ending stats →
      IsEndingOf task (is_hopeless task) by limit r ending stats
  width_by search.Bfs k of h = absurd of
  width_by search.Gbfs k of h = absurd of
  width_by search.Iw1 k of h = subst (λ n. IsWidthEnding (space_of task) task n limit r ending stats) of h
  width_by search.Iw2 k of h = subst (λ n. IsWidthEnding (space_of task) task n limit r ending stats) of h

pub width_within : {E : Type 0} (task over : Task) (by : Search) (k limit : ℕ) (old new : Register)
    (before after : ℕ) → over ≡ task → old.limit ≡ limit → IsOfWidth by k
    → (result : Result WidthEnded E) → IfOk result (IsWidth over k old new)
    → IfOk result (λ ended. AreAcyclic over → (h : IsWidth over k old new ended)
    → after ≤ before + search_bound over h.of)
    → IfOk result (λ ended.
    IsSearchedWithin task by limit (ending_of_width ended.outcome) ended.stats before after)
width_within task over by k limit old new before after same fits is =
    searched_within task over by limit before after (λ (e : WidthEnded). ending_of_width e.outcome)
    (λ (e : WidthEnded). e.stats) (IsWidth over k old new) (λ e h. h.of)
    (λ e h. width_by task limit h.of (ending_of_width e.outcome) e.stats by k is
    (subst (λ (t : Task). IsWidthEnding (space_of t) t k limit h.of (ending_of_width e.outcome) e.stats) same
    (subst (λ l. IsWidthEnding (space_of over) over k l h.of (ending_of_width e.outcome) e.stats) fits h.is)))
    same
