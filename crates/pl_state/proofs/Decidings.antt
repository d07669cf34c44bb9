-- A goal whose literals over static predicates are decided.
use Rattle.std.proofs.Common.{◌≡◌, ◌+◌, ◌<◌, ◌≤◌, ℕ, suc, Bool, true, false, not, cond, ◌&&◌, List, [], ◌∷◌}
use Rattle.std.proofs.Common.{◌++◌, length, get_or, take, refl, sym, ap, ◌∙◌, subst, inl, inr, All, arith}
use Rattle.std.proofs.Common.{count_by, ◌^◌}
use Rattle.std.specs.List.{list_all, filter}
use Rattle.std.proofs.lemmas.Bool.{cases_Bool, true≢false, false≢true}
use Rattle.std.proofs.lemmas.List.{append-nil, take_all}
use Rattle.std.proofs.lemmas.List.Elements.{filter_more, filter_passes, All-filter, All-get_or}
use Rattle.std.proofs.lemmas.List.Sums.{sum_by-cons, count_by_more_yes, count_by_more_no}
use Rattle.pl_task.specs.declared.data.GoalLiteral.{GoalLiteral}
use Rattle.pl_task.specs.declared.task.Task.{Task}
use Rattle.pl_task.specs.States.{initial}
use Rattle.pl_task.specs.Goal.{is_goal_met, is_goal, unmet}
use Rattle.pl_task.specs.WellFormed.{IsAtomOf}
use Rattle.pl_state.specs.StateOf.{state_in}
use Rattle.pl_state.specs.Decided.{DecidedGoal, is_open, is_missed, IsDecidedGoal}
use Rattle.pl_state.proofs.StatesOfWords.{state_in-other}

-- a literal that no state decides is met in each as initially
same_met : (task : Task) (words : List ℕ) (g : GoalLiteral) → is_open task g ≡ false →
    is_goal_met (state_in task words) g ≡ is_goal_met (initial task) g
same_met task words g closed = ap (λ b. cond g.wanted b (not b)) (state_in-other task words g.atom closed)

filter_yes : {X : Type 0} (p : X → Bool) (x : X) (xs : List X) → p x ≡ true →
    filter p (x ∷ xs) ≡ x ∷ filter p xs
filter_yes p x xs h = rw h refl

filter_no : {X : Type 0} (p : X → Bool) (x : X) (xs : List X) → p x ≡ false → filter p (x ∷ xs) ≡ filter p xs
filter_no p x xs h = rw h refl

-- what is not met is missed by all states, or decided by this one
count_split : (task : Task) (words : List ℕ) (goal : List GoalLiteral) →
    count_by (λ g. not (is_goal_met (state_in task words) g)) goal ≡ count_by (is_missed task) goal + count_by
    (λ g. not (is_goal_met (state_in task words) g)) (filter (is_open task) goal)
count_split task words [] = refl
count_split task words (g ∷ goal) =
    let p : GoalLiteral → Bool = λ x. not (is_goal_met (state_in task words) x) in
    let rest : count_by p goal ≡ count_by (is_missed task) goal + count_by p (filter (is_open task) goal) =
    count_split task words goal in
    let whole : count_by p (g ∷ goal) ≡ cond {A = ℕ} (p g) 1 0 + count_by p goal =
    sum_by-cons (λ x. cond (p x) 1 0) g goal in
    let missed : count_by (is_missed task) (g ∷ goal) ≡ cond {A =
    ℕ} (is_missed task g) 1 0 + count_by (is_missed task) goal =
    sum_by-cons (λ x. cond (is_missed task x) 1 0) g goal in
    elim (cases_Bool (is_open task g)) [
      | inl open_one ↦ (
          let none : cond {A = ℕ} (is_missed task g) 1 0 ≡ 0 =
          ap (λ b. cond {A = ℕ} (not b && not (is_goal_met (initial task) g)) 1 0) open_one in
          let first : count_by p (filter (is_open task) (g ∷ goal)) ≡ cond {A =
          ℕ} (p g) 1 0 + count_by p (filter (is_open task) goal) =
          ap (count_by p) (filter_yes (is_open task) g goal open_one) ∙
          sum_by-cons (λ x. cond (p x) 1 0) g (filter (is_open task) goal) in
          omega arith
          )
      | inr closed ↦ (
          let one : cond {A = ℕ} (is_missed task g) 1 0 ≡ cond {A = ℕ} (p g) 1 0 =
          ap (λ b. cond {A = ℕ} (not b && not (is_goal_met (initial task) g)) 1 0) closed ∙
          ap (λ b. cond {A = ℕ} (not b) 1 0) (sym (same_met task words g closed)) in
          let same : count_by p (filter (is_open task) (g ∷ goal)) ≡ count_by p (filter (is_open task) goal) =
          ap (count_by p) (filter_no (is_open task) g goal closed) in
          omega arith
          )
    ]

-- the number of literals that are not met
pub unmet_split : (task : Task) (words : List ℕ) (literals : List GoalLiteral) (missed count : ℕ) →
    missed ≡ count_by (is_missed task) task.goal → literals ≡ filter (is_open task) task.goal →
    count ≡ missed + count_by (λ g. not (is_goal_met (state_in task words) g)) literals →
    count ≡ unmet task (state_in task words)
unmet_split task words literals missed count many are sum =
    sum ∙ ap (λ n. n + count_by (λ g. not (is_goal_met (state_in task words) g)) literals) many ∙
    ap (λ l. count_by (is_missed task) task.goal + count_by (λ g. not (is_goal_met (state_in task words) g))
    l) are ∙ sym (count_split task words task.goal)

-- a goal is met where none of its literals is not met
all_from_count : (met : GoalLiteral → Bool) (goal : List GoalLiteral) → count_by (λ g. not (met g)) goal ≡ 0 →
    list_all met goal ≡ true
all_from_count met [] h = refl
all_from_count met (g ∷ goal) h =
    let whole : count_by (λ x. not (met x)) (g ∷ goal) ≡ cond {A =
    ℕ} (not (met g)) 1 0 + count_by (λ x. not (met x)) goal =
    sum_by-cons (λ x. cond (not (met x)) 1 0) g goal in
    let rest : list_all met goal ≡ true = all_from_count met goal (omega arith) in
    by_case (met g) refl (omega arith) rest
  where
    by_case : (b : Bool) → met g ≡ b → cond {A = ℕ} (not (met g)) 1 0 ≡ 0 → list_all met goal ≡ true →
        (met g && list_all met goal) ≡ true
    by_case true e n r = ap (λ b. b && list_all met goal) e ∙ r
    by_case false e n r =
        absurd (let m : 1 ≡ 0 = sym (ap (λ b. cond {A = ℕ} (not b) 1 0) e) ∙ n in omega arith)

count_from_all : (met : GoalLiteral → Bool) (goal : List GoalLiteral) → list_all met goal ≡ true →
    count_by (λ g. not (met g)) goal ≡ 0
count_from_all met [] h = refl
count_from_all met (g ∷ goal) h = by_case (met g) refl h (λ r. count_from_all met goal r)
  where
    by_case : (b : Bool) → met g ≡ b → (met g && list_all met goal) ≡ true →
        (list_all met goal ≡ true → count_by (λ x. not (met x)) goal ≡ 0) →
        count_by (λ x. not (met x)) (g ∷ goal) ≡ 0
    by_case true e r rest =
        let more : list_all met goal ≡ true = sym (ap (λ b. b && list_all met goal) e) ∙ r in
        let none : cond {A = ℕ} (not (met g)) 1 0 ≡ 0 = ap (λ b. cond {A = ℕ} (not b) 1 0) e in
        let others : count_by (λ x. not (met x)) goal ≡ 0 = rest more in
        omega (arith, sum_by-cons (λ x. cond (not (met x)) 1 0) g goal)
    by_case false e r rest = absurd (false≢true (sym (ap (λ b. b && list_all met goal) e) ∙ r))

-- where a literal is missed, or one that the state decides, the goal is not met
pub goal_missed : (task : Task) (words : List ℕ) (literals : List GoalLiteral) (missed : ℕ) →
    missed ≡ count_by (is_missed task) task.goal → 0 < missed → false ≡ is_goal task (state_in task words)
goal_missed task words literals missed many some = by_case (is_goal task (state_in task words)) refl
  where
    by_case : (b : Bool) → is_goal task (state_in task words) ≡ b → false ≡ is_goal task (state_in task words)
    by_case false e = sym e
    by_case true e =
        let none = count_from_all (is_goal_met (state_in task words)) task.goal e in
        let split = count_split task words task.goal in
        absurd (omega arith)

pub goal_unmet : (task : Task) (words : List ℕ) (literals : List GoalLiteral) →
    literals ≡ filter (is_open task) task.goal → list_all (is_goal_met (state_in task words)) literals ≡ false
    → false ≡ is_goal task (state_in task words)
goal_unmet task words literals are h = by_case (is_goal task (state_in task words)) refl
  where
    by_case : (b : Bool) → is_goal task (state_in task words) ≡ b → false ≡ is_goal task (state_in task words)
    by_case false e = sym e
    by_case true e =
        let none = count_from_all (is_goal_met (state_in task words)) task.goal e in
        let split = count_split task words task.goal in
        let open_ones : count_by (λ g. not (is_goal_met (state_in task words) g))
        (filter (is_open task) task.goal) ≡ 0 = omega arith in
        absurd (true≢false (sym (ap (list_all (is_goal_met (state_in task words))) are ∙
        all_from_count (is_goal_met (state_in task words)) (filter (is_open task) task.goal) open_ones) ∙
        h))

pub goal_met : (task : Task) (words : List ℕ) (literals : List GoalLiteral) (missed : ℕ) →
    missed ≡ count_by (is_missed task) task.goal → missed ≡ 0 → literals ≡ filter (is_open task) task.goal →
    list_all (is_goal_met (state_in task words)) literals ≡ true → true ≡ is_goal task (state_in task words)
goal_met task words literals missed many none are h =
    let open_ones = count_from_all (is_goal_met (state_in task words)) (filter (is_open task) task.goal)
    (sym (ap (list_all (is_goal_met (state_in task words))) are) ∙ h) in
    let split = count_split task words task.goal in
    sym (all_from_count (is_goal_met (state_in task words)) task.goal (omega arith))

-- the literals that a state decides are over atoms of the task
literals_well : (task : Task) (literals : List GoalLiteral) → literals ≡ filter (is_open task) task.goal →
    All (λ (g : GoalLiteral). IsAtomOf task.objects task.predicates g.atom) literals
literals_well task literals are =
    subst (All (λ (g : GoalLiteral). IsAtomOf task.objects task.predicates g.atom)) (sym are)
    (All-filter (is_open task) (λ (g : GoalLiteral). IsAtomOf task.objects task.predicates g.atom) task.goal
    task.goal_ok.each)

-- and over fluent predicates
literals_fluent : (task : Task) (literals : List GoalLiteral) →
    literals ≡ filter (is_open task) task.goal → All (λ (g : GoalLiteral). is_open task g ≡ true) literals
literals_fluent task literals are = subst (All (λ (g : GoalLiteral). is_open task g ≡ true)) (sym are)
    (filter_passes (is_open task) task.goal)

-- so is the one at a place of the slice that has them
pub open_literal : (task : Task) (slice literals : List GoalLiteral) (i : ℕ) (d literal : GoalLiteral)
    → slice ≡ literals → literals ≡ filter (is_open task) task.goal → i < length slice
    → literal ≡ get_or slice i d →
    IsAtomOf task.objects task.predicates literal.atom × (is_open task literal ≡ true)
open_literal task slice literals i d literal same are low is = (
  subst (λ (g : GoalLiteral). IsAtomOf task.objects task.predicates g.atom) (sym is)
      (All-get_or (λ (g : GoalLiteral). IsAtomOf task.objects task.predicates g.atom) slice i d low
      (literals_well task slice (same ∙ are))),
  subst (λ (g : GoalLiteral). is_open task g ≡ true) (sym is)
      (All-get_or (λ (g : GoalLiteral). is_open task g ≡ true) slice i d low
      (literals_fluent task slice (same ∙ are))),
)

-- the literals so far are decided
pub record IsDecidedUpTo (task : Task) (goal : List GoalLiteral) (i missed : ℕ)
    (literals : List GoalLiteral) : Type 0 where
  pub few : missed ≤ i
  pub missed_are : missed ≡ count_by (is_missed task) (take i goal)
  pub literals_are : literals ≡ filter (is_open task) (take i goal)

pub decided_none : (task : Task) (goal literals : List GoalLiteral) → literals ≡ [] →
    IsDecidedUpTo task goal 0 0 literals
decided_none task goal literals none = record { few = omega arith; missed_are = refl; literals_are = none }

at_item : (task : Task) (goal : List GoalLiteral) (i : ℕ) (g : GoalLiteral) (test : GoalLiteral →
    Bool) (b : Bool) → g ≡ get_or goal i g → test g ≡ b → test (get_or goal i g) ≡ b
at_item task goal i g test b reads h = subst (λ (x : GoalLiteral). test x ≡ b) reads h

pub decided_open : (task : Task) (goal : List GoalLiteral) (i missed : ℕ) (literals new : List GoalLiteral)
    (g copy : GoalLiteral) → i < length goal → g ≡ get_or goal i g → copy ≡ g → true ≡ is_open task g →
    new ≡ literals ++ copy ∷ [] → IsDecidedUpTo task goal i missed literals →
    IsDecidedUpTo task goal (i + 1) missed new
decided_open task goal i missed literals new g copy within reads is opens push h = record {
  few = omega (arith, h.few);
  missed_are = h.missed_are ∙
      sym (count_by_more_no (is_missed task) goal i g within
      (at_item task goal i g (is_missed task) false reads
      (ap (λ b. not b && not (is_goal_met (initial task) g)) (sym opens))));
  literals_are = push ∙ ap (λ l. l ++ copy ∷ []) h.literals_are ∙
      ap (λ (x : GoalLiteral). filter (is_open task) (take i goal) ++ x ∷ []) (is ∙ reads) ∙
      sym (filter_more (is_open task) goal i g within ∙
      ap (λ b. filter (is_open task) (take i goal) ++ cond b (get_or goal i g ∷ []) [])
      (at_item task goal i g (is_open task) true reads (sym opens)));
}

closed_same : (task : Task) (goal : List GoalLiteral) (i : ℕ) (g : GoalLiteral) → i < length goal →
    g ≡ get_or goal i g → false ≡ is_open task g →
    filter (is_open task) (take (i + 1) goal) ≡ filter (is_open task) (take i goal)
closed_same task goal i g within reads closes =
    filter_more (is_open task) goal i g within ∙
    ap (λ b. filter (is_open task) (take i goal) ++ cond b (get_or goal i g ∷ []) [])
    (at_item task goal i g (is_open task) false reads (sym closes)) ∙
    append-nil (filter (is_open task) (take i goal))

pub decided_met : (task : Task) (goal : List GoalLiteral) (i missed : ℕ) (literals : List GoalLiteral)
    (g : GoalLiteral) → i < length goal → g ≡ get_or goal i g → false ≡ is_open task g →
    true ≡ is_goal_met (initial task) g →
    IsDecidedUpTo task goal i missed literals → IsDecidedUpTo task goal (i + 1) missed literals
decided_met task goal i missed literals g within reads closes meets h = record {
  few = omega (arith, h.few);
  missed_are = h.missed_are ∙
      sym (count_by_more_no (is_missed task) goal i g within
      (at_item task goal i g (is_missed task) false reads
      (ap (λ b. not b && not (is_goal_met (initial task) g)) (sym closes) ∙ ap not (sym meets))));
  literals_are = h.literals_are ∙ sym (closed_same task goal i g within reads closes);
}

pub decided_missed : (task : Task) (goal : List GoalLiteral) (i missed : ℕ) (literals : List GoalLiteral)
    (g : GoalLiteral) → i < length goal → g ≡ get_or goal i g → false ≡ is_open task g →
    false ≡ is_goal_met (initial task) g →
    IsDecidedUpTo task goal i missed literals → IsDecidedUpTo task goal (i + 1) (missed + 1) literals
decided_missed task goal i missed literals g within reads closes misses h = record {
  few = omega (arith, h.few);
  missed_are = ap (λ n. n + 1) h.missed_are ∙
      sym (count_by_more_yes (is_missed task) goal i g within
      (at_item task goal i g (is_missed task) true reads
      (ap (λ b. not b && not (is_goal_met (initial task) g)) (sym closes) ∙ ap not (sym misses))));
  literals_are = h.literals_are ∙ sym (closed_same task goal i g within reads closes);
}

pub decided_all : (task : Task) (goal : List GoalLiteral) (i missed : ℕ) (literals : List GoalLiteral)
    (decided : DecidedGoal) → goal ≡ task.goal → length goal ≤ i → decided.missed ≡ missed →
    decided.literals ≡ literals →
    IsDecidedUpTo task goal i missed literals → IsDecidedGoal task decided
decided_all task goal i missed literals decided are past many list h = record {
  missed_are = many ∙ h.missed_are ∙ ap (count_by (is_missed task)) (take_all i goal past ∙ are);
  literals_are = list ∙ h.literals_are ∙ ap (filter (is_open task)) (take_all i goal past ∙ are);
}

-- literals that no state meets, and literals that a state decides, are at most all literals
count_room : (task : Task) (goal : List GoalLiteral) →
    count_by (is_missed task) goal + length (filter (is_open task) goal) ≤ length goal
count_room task [] = omega arith
count_room task (g ∷ goal) =
    let rest : count_by (is_missed task) goal + length (filter (is_open task) goal) ≤ length goal =
    count_room task goal in
    let missed : count_by (is_missed task) (g ∷ goal) ≡ cond {A =
    ℕ} (is_missed task g) 1 0 + count_by (is_missed task) goal =
    sum_by-cons (λ x. cond (is_missed task x) 1 0) g goal in
    elim (cases_Bool (is_open task g)) [
      | inl open_one ↦ (
          let none : cond {A = ℕ} (is_missed task g) 1 0 ≡ 0 =
          ap (λ b. cond {A = ℕ} (not b && not (is_goal_met (initial task) g)) 1 0) open_one in
          let one_more : length (filter (is_open task) (g ∷ goal)) ≡ suc
          (length (filter (is_open task) goal)) = ap length (filter_yes (is_open task) g goal open_one) in
          omega arith
          )
      | inr closed ↦ (
          let most : cond {A = ℕ} (is_missed task g) 1 0 ≤ 1 = at_most (is_missed task g) in
          let same : length (filter (is_open task) (g ∷ goal)) ≡ length (filter (is_open task) goal) =
          ap length (filter_no (is_open task) g goal closed) in
          omega arith
          )
    ]
  where
    at_most : (b : Bool) → cond {A = ℕ} b 1 0 ≤ 1
    at_most true = omega arith
    at_most false = omega arith

pub room_for : (task : Task) (literals : List GoalLiteral) (missed : ℕ) →
    missed ≡ count_by (is_missed task) task.goal → literals ≡ filter (is_open task) task.goal →
    missed + length literals < 2 ^ 32
room_for task literals missed many are =
    let room = count_room task task.goal in
    let most = task.goal_ok.many in
    let long : length literals ≡ length (filter (is_open task) task.goal) = ap length are in
    omega arith
