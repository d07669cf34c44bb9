-- Hopeless states by what is decided once a task.
use Rattle.std.proofs.Common.{◌≡◌, ◌↔◌, ◌⊎◌, ◌+◌, ◌<◌, ◌≤◌, ℕ, Bool, true, false, not, cond, IsTrue, List, []}
use Rattle.std.proofs.Common.{◌∷◌, ◌++◌, length, get_or, Some, slice_get, Contains, refl, sym, ap, ◌∙◌}
use Rattle.std.proofs.Common.{subst, inl, inr, arith}
use Rattle.std.proofs.lemmas.Bool.{cases_Bool, cases_order, false≢true}
use Rattle.std.proofs.lemmas.Option.{slice_get_within, slice_get-get_or, get_or_from_slice_get}
use Rattle.std.proofs.lemmas.List.Elements.{Contains-push, Contains-push_cases, Contains-append_left}
use Rattle.pl_task.specs.declared.data.GoalLiteral.{GoalLiteral}
use Rattle.pl_task.specs.declared.task.Task.{Task}
use Rattle.pl_task.specs.States.{State, initial}
use Rattle.pl_task.specs.Goal.{is_goal_met, IsStuck, IsHopeless}
use Rattle.pl_task.specs.WellFormed.{IsAtomOf}
use Rattle.pl_state.specs.StateOf.{is_fluent_in, state_in}
use Rattle.pl_state.proofs.StatesOfWords.{state_in-other}
use Rattle.pl_registry.proofs.Lists.{Contains-nil}
use Rattle.pl_hooks.specs.Fixed.{FixedGoal, IsLost, IsHeld, IsHeldAt, IsFixedGoal}
use Rattle.pl_hooks.proofs.Fixings.{all_at, same_there}

-- what is decided when this many of the goal's literals have been looked at
pub record IsFixedUpTo (task : Task) (goal : List GoalLiteral) (i : ℕ) (lost : Bool)
    (fixed : List ℕ) : Type 0 where
  pub lost_is : IsTrue lost
      ↔ ((n : ℕ) × (g : GoalLiteral) × (n < i) × (slice_get goal n ≡ Some g) × IsLost task g)
  pub fixed_are : (n : ℕ) → Contains fixed n
      ↔ ((g : GoalLiteral) × (n < i) × (slice_get goal n ≡ Some g) × IsHeld task g)

pub fixed_none : (task : Task) (goal : List GoalLiteral) (fixed : List ℕ) → fixed ≡ []
    → IsFixedUpTo task goal 0 false fixed
fixed_none task goal fixed empty = record {
  lost_is = (
    (λ no_truth. absurd (false≢true no_truth)),
    (λ (n, g, below, at, is). absurd (omega (arith, below))),
  );
  fixed_are = λ n. (
    (λ has. absurd (Contains-nil n (subst (λ l. Contains l n) empty has))),
    (λ (g, below, at, is). absurd (omega (arith, below))),
  );
}

-- one more literal, by what it adds
fixed_more : (task : Task) (goal : List GoalLiteral) (i : ℕ) (g : GoalLiteral) (lost lost' : Bool)
    (fixed fixed' : List ℕ) → i < length goal → g ≡ get_or goal i g →
    (IsTrue lost' → IsTrue lost ⊎ IsLost task g) → (IsTrue lost → IsTrue lost')
    → (IsLost task g → IsTrue lost') →
    ((n : ℕ) → Contains fixed' n → Contains fixed n ⊎ ((i ≡ n) × IsHeld task g))
    → ((n : ℕ) → Contains fixed n → Contains fixed' n) → (IsHeld task g → Contains fixed' i) →
    IsFixedUpTo task goal i lost fixed → IsFixedUpTo task goal (i + 1) lost' fixed'
fixed_more task goal i g lost lost' fixed fixed' within reads split_lost keep_lost new_lost split_fixed
    keep_fixed new_fixed h =
    record { lost_is = (lost_to, lost_from); fixed_are = λ n. (fixed_to n, fixed_from n) }
  where
    found : slice_get goal i ≡ Some g
    found = slice_get-get_or goal i g within ∙ ap Some (sym reads)

    lost_to : IsTrue lost' → (n : ℕ) × (x : GoalLiteral) × (n < i + 1) × (slice_get goal n ≡ Some x)
        × IsLost task x
    lost_to so = elim (split_lost so) [
      | inl before ↦ (let (n, x, below, at, is) = h.lost_is.0 before in (n, x, omega (arith, below), at, is))
      | inr here ↦ (i, g, omega arith, found, here)
    ]

    lost_from : ((n : ℕ) × (x : GoalLiteral) × (n < i + 1) × (slice_get goal n ≡ Some x) × IsLost task x)
        → IsTrue lost'
    lost_from (n, x, below, at, is) = elim (cases_order n i) [
      | inl here ↦ new_lost
          (subst (IsLost task)
          (sym (same_there goal i g x reads (subst (λ j. slice_get goal j ≡ Some x) here at))) is)
      | inr (inl lower) ↦ keep_lost (h.lost_is.1 (n, x, lower, at, is))
      | inr (inr higher) ↦ absurd (omega (arith, below, higher))
    ]

    fixed_to : (n : ℕ) → Contains fixed' n → (x : GoalLiteral) × (n < i + 1) × (slice_get goal n ≡ Some x)
        × IsHeld task x
    fixed_to n has = elim (split_fixed n has) [
      | inl before ↦ (let (x, below, at, is) = (h.fixed_are n).0 before in (x, omega (arith, below), at, is))
      | inr (at, held) ↦ (g, omega (arith, at), subst (λ j. slice_get goal j ≡ Some g) at found, held)
    ]

    fixed_from : (n : ℕ) → ((x : GoalLiteral) × (n < i + 1) × (slice_get goal n ≡ Some x) × IsHeld task x)
        → Contains fixed' n
    fixed_from n (x, below, at, is) = elim (cases_order n i) [
      | inl here ↦ subst (Contains fixed') (sym here)
          (new_fixed (subst (IsHeld task)
          (sym (same_there goal i g x reads (subst (λ j. slice_get goal j ≡ Some x) here at))) is))
      | inr (inl lower) ↦ keep_fixed n ((h.fixed_are n).1 (x, lower, at, is))
      | inr (inr higher) ↦ absurd (omega (arith, below, higher))
    ]

-- a literal over a fluent predicate isn't lost
held_not_lost : (task : Task) (g : GoalLiteral) → IsHeld task g → IsLost task g → ⊥
held_not_lost task g held lost = false≢true (sym lost.closed ∙ held.opens)

pub fixed_held : (task : Task) (goal : List GoalLiteral) (i : ℕ) (g : GoalLiteral) (lost : Bool)
    (fixed fixed' : List ℕ) → i < length goal → g ≡ get_or goal i g →
    IsHeld task g → fixed' ≡ fixed ++ i ∷ [] → IsFixedUpTo task goal i lost fixed
    → IsFixedUpTo task goal (i + 1) lost fixed'
fixed_held task goal i g lost fixed fixed' within reads held push h =
    fixed_more task goal i g lost lost fixed fixed' within reads (λ so. inl so) (λ so. so)
    (λ is. absurd (held_not_lost task g held is)) splits
    (λ n has. subst (λ l. Contains l n) (sym push) (stays n has))
    (λ _. subst (λ l. Contains l i) (sym push) (Contains-push fixed i)) h
  where
    splits : (n : ℕ) → Contains fixed' n → Contains fixed n ⊎ ((i ≡ n) × IsHeld task g)
    splits n has = elim (Contains-push_cases fixed i n (subst (λ l. Contains l n) push has)) [
      | inl before ↦ inl before
      | inr here ↦ inr (here, held)
    ]

    stays : (n : ℕ) → Contains fixed n → Contains (fixed ++ i ∷ []) n
    stays n has = Contains-append_left fixed (i ∷ []) n has

pub fixed_lost : (task : Task) (goal : List GoalLiteral) (i : ℕ) (g : GoalLiteral) (lost : Bool)
    (fixed : List ℕ) → i < length goal → g ≡ get_or goal i g →
    (IsHeld task g → ⊥) → IsLost task g → IsFixedUpTo task goal i lost fixed
    → IsFixedUpTo task goal (i + 1) true fixed
fixed_lost task goal i g lost fixed within reads free is h =
    fixed_more task goal i g lost true fixed fixed within reads (λ _. inr is) (λ _. refl) (λ _. refl)
    (λ n has. inl has) (λ n has. has) (λ held. absurd (free held)) h

pub fixed_neither : (task : Task) (goal : List GoalLiteral) (i : ℕ) (g : GoalLiteral) (lost : Bool)
    (fixed : List ℕ) → i < length goal → g ≡ get_or goal i g →
    (IsHeld task g → ⊥) → (IsLost task g → ⊥) → IsFixedUpTo task goal i lost fixed
    → IsFixedUpTo task goal (i + 1) lost fixed
fixed_neither task goal i g lost fixed within reads free kept h =
    fixed_more task goal i g lost lost fixed fixed within reads (λ so. inl so) (λ so. so)
    (λ is. absurd (kept is)) (λ n has. inl has) (λ n has. has) (λ held. absurd (free held)) h

-- a test that says no of what it says yes of exactly where P holds
pub says_no : (b : Bool) (P : Type 0) → IsTrue b ↔ P → b ≡ false → P → ⊥
says_no b P (to, from) not_so p = false≢true (sym not_so ∙ from p)

pub fixed_all : (task : Task) (goal : List GoalLiteral) (i : ℕ) (lost : Bool) (fixed : List ℕ)
    (decided : FixedGoal) → goal ≡ task.goal → length goal ≤ i → decided.lost ≡ lost → decided.fixed ≡ fixed →
    IsFixedUpTo task goal i lost fixed → IsFixedGoal task decided
fixed_all task goal i lost fixed decided are past one list h = record {
  lost_is = (
    (λ so. (let (n, g, below, at, is) = h.lost_is.0 (sym one ∙ so) in
        (n, g, subst (λ gs. slice_get gs n ≡ Some g) are at, is))),
    (λ (n, g, at, is). one
        ∙ h.lost_is.1 (n, g, below n g at, subst (λ gs. slice_get gs n ≡ Some g) (sym are) at, is)),
  );
  fixed_are = λ n. (
    (λ has. (let (g, low, at, is) = (h.fixed_are n).0 (subst (λ l. Contains l n) list has) in
        (g, subst (λ gs. slice_get gs n ≡ Some g) are at, is))),
    (λ (g, at, is). subst (λ l. Contains l n) (sym list)
        ((h.fixed_are n).1 (g, below n g at, subst (λ gs. slice_get gs n ≡ Some g) (sym are) at, is))),
  );
}
  where
    below : (n : ℕ) (g : GoalLiteral) → slice_get task.goal n ≡ Some g → n < i
    below n g at =
        let low : n < length goal = slice_get_within goal n g
        (subst (λ gs. slice_get gs n ≡ Some g) (sym are) at) in
        omega (arith, low, past)

-- a literal that no state decides is met in each as initially
same_met : (task : Task) (words : List ℕ) (g : GoalLiteral) → is_fluent_in task g.atom.predicate ≡ false
    → is_goal_met (state_in task words) g ≡ is_goal_met (initial task) g
same_met task words g closed = ap (λ b. cond g.wanted b (not b)) (state_in-other task words g.atom closed)

-- a stuck literal by its number
pub stuck_at : (task : Task) (s : State) (n : ℕ) (g : GoalLiteral) → slice_get task.goal n ≡ Some g
    → IsStuck task s g → IsHopeless task s
stuck_at task s n g at stuck =
    (n, g, slice_get_within task.goal n g at, get_or_from_slice_get task.goal n g g at, stuck)

-- where a literal is lost, each state is hopeless
pub lost_hopeless : (task : Task) (words : List ℕ) (decided : FixedGoal) (lost : Bool)
    → IsFixedGoal task decided → decided.lost ≡ lost → lost ≡ true → IsTrue true
    ↔ IsHopeless task (state_in task words)
lost_hopeless task words decided lost is one so = (
  (λ _. (let (n, g, at, gone) = is.lost_is.0 (one ∙ so) in stuck_at task (state_in task words) n g at
      (record { missed = ap not (same_met task words g gone.closed ∙ gone.missed); none = gone.none }))),
  (λ _. refl),
)

-- a number at a place is the one that is read there with any default
pub number_at : (numbers : List ℕ) (k : ℕ) → k < length numbers
    → get_or numbers k 0 ≡ get_or numbers k (get_or numbers k 0)
number_at numbers k within =
    sym (get_or_from_slice_get numbers k (get_or numbers k 0) (get_or numbers k 0)
    (slice_get-get_or numbers k 0 within))

-- the literal with a number that is looked at
pub held_at : (task : Task) (decided : FixedGoal) (numbers : List ℕ) (k : ℕ) → IsFixedGoal task decided
    → numbers ≡ decided.fixed → k < length numbers → IsHeldAt task (get_or numbers k 0)
held_at task decided numbers k is are within = (is.fixed_are (get_or numbers k 0)).0
    (subst (λ l. Contains l (get_or numbers k 0)) are (k, within, sym (number_at numbers k within)))

pub held_within : (task : Task) (n : ℕ) → IsHeldAt task n → n < length task.goal
held_within task n (g, at, held) = slice_get_within task.goal n g at

pub held_well : (task : Task) (n : ℕ) (g : GoalLiteral) → IsHeldAt task n → g ≡ get_or task.goal n g
    → IsAtomOf task.objects task.predicates g.atom
held_well task n g held reads = all_at (λ (x : GoalLiteral). IsAtomOf task.objects task.predicates x.atom)
    task.goal n g reads (held_within task n held) task.goal_ok.each

pub held_fluent : (task : Task) (n : ℕ) (g : GoalLiteral) → IsHeldAt task n → g ≡ get_or task.goal n g
    → is_fluent_in task g.atom.predicate ≡ true
held_fluent task n g (x, at, held) reads =
    subst (λ (y : GoalLiteral). is_fluent_in task y.atom.predicate ≡ true)
    (sym (same_there task.goal n g x reads at)) held.opens

-- the literal with the number is met
abbrev pub IsMetAt : Task → State → ℕ → Type 0
IsMetAt task s n = (g : GoalLiteral) → slice_get task.goal n ≡ Some g → is_goal_met s g ≡ true

pub met_at : (task : Task) (s : State) (n : ℕ) (g : GoalLiteral) (b : Bool) → g ≡ get_or task.goal n g
    → b ≡ is_goal_met s g → b ≡ true → IsMetAt task s n
met_at task s n g b reads is so x at = subst (λ y. is_goal_met s y ≡ true)
    (same_there task.goal n g x reads at) (sym is ∙ so)

pub missed_hopeless : (task : Task) (s : State) (n : ℕ) (g : GoalLiteral) (b : Bool) → IsHeldAt task n
    → g ≡ get_or task.goal n g → b ≡ is_goal_met s g → b ≡ false → IsTrue true ↔ IsHopeless task s
missed_hopeless task s n g b (x, at, held) reads is so = (
  (λ _. stuck_at task s n x at
      (record {
        missed = ap not
            (subst (λ y. is_goal_met s y ≡ false) (same_there task.goal n g x reads at) (sym is ∙ so));
        none =
            held.none;
      })),
  (λ _. refl),
)

-- where no literal is lost and all that are looked at are met, the state is not hopeless
pub kept : (task : Task) (words : List ℕ) (decided : FixedGoal) (lost : Bool) (i : ℕ)
    → IsFixedGoal task decided → decided.lost ≡ lost → lost ≡ false → length decided.fixed ≤ i →
    ((k n : ℕ) → k < i → slice_get decided.fixed k ≡ Some n → IsMetAt task (state_in task words) n)
    → IsTrue false ↔ IsHopeless task (state_in task words)
kept task words decided lost i is one so past met = (
  (λ no_truth. absurd (false≢true no_truth)),
  (λ (n, g, within, reads, stuck). absurd
      (none n g (slice_get-get_or task.goal n g within ∙ ap Some reads) stuck)),
)
  where
    none : (n : ℕ) (g : GoalLiteral) → slice_get task.goal n ≡ Some g → IsStuck task (state_in task words) g
        → ⊥
    none n g at stuck = elim (cases_Bool (is_fluent_in task g.atom.predicate)) [
      | inl opens ↦ (
          let (k, below, reads) = (is.fixed_are n).1 (g, at, record { opens = opens; none = stuck.none }) in
          let low : k < i = omega (arith, below, past) in
          false≢true (sym
          (ap not (met k n low (slice_get-get_or decided.fixed k n below ∙ ap Some reads) g at))
          ∙ stuck.missed))
      | inr closed ↦ (
          let missed : is_goal_met (initial task) g ≡ false =
          missed_from (is_goal_met (initial task) g)
          (ap not (sym (same_met task words g closed)) ∙ stuck.missed) in
          false≢true (sym (one ∙ so)
          ∙ is.lost_is.1 (n, g, at, record { closed = closed; missed = missed; none = stuck.none })))
    ]
      where
        missed_from : (b : Bool) → not b ≡ true → b ≡ false
        missed_from true e = absurd (false≢true e)
        missed_from false e = refl
