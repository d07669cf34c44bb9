-- Lines that were executed, and that a list of lines has one verdict.
use Rattle.std.proofs.Common.{◌≡◌, ℕ, ◌+◌, ◌<◌, suc, false, List, [], ◌∷◌, ◌++◌, map, take, drop, length}
use Rattle.std.proofs.Common.{get_or, refl, sym, ◌∙◌, ap, subst, arith, IsTrue, drop-cons, Option, Some, None}
use Rattle.std.proofs.Common.{MatchOption}
use Rattle.std.proofs.lemmas.Bool.{false≢true, not-true}
use Rattle.std.proofs.lemmas.List.{take_more, take-append-drop, length-take-le, length-map, map-append}
use Rattle.pl_task.specs.declared.plan.PlanLine.{PlanLine}
use Rattle.pl_task.specs.declared.plan.PlanLine.TheVariants as line
use Rattle.pl_task.specs.declared.task.Task.{Task}
use Rattle.pl_task.specs.Instance.{Instance}
use Rattle.pl_task.specs.States.{State, IsApplicable, result_of, initial}
use Rattle.pl_task.specs.Goal.{is_goal}
use Rattle.pl_task.specs.Plans.{Executes}
use Rattle.pl_task.proofs.StateLemmas.{executes_joined, one_end}
use Rattle.pl_valid.specs.declared.verdict.Reason.{Reason}
use Rattle.pl_valid.specs.declared.verdict.Reason.TheVariants as reason
use Rattle.pl_valid.specs.declared.verdict.Verdict.{Verdict}
use Rattle.pl_valid.specs.declared.verdict.Verdict.TheVariants as verdict
use Rattle.pl_valid.specs.Judging.{IsExecuted}
use Rattle.pl_valid.specs.Verdict.{IsRefused, IsFirstRefused, IsMissed, IsVerdict}

-- the first lines are steps that lead from the initial state to the state
pub record IsRun (task : Task) (lines : List PlanLine) (count : ℕ) (state : State) : Type 0 where
  pub steps : List Instance
  pub are : take count lines ≡ map line.Step steps
  pub executed : Executes task (initial task) steps state

pub run_begun : (task : Task) (lines : List PlanLine) (s : State) → s ≡ initial task → IsRun task lines 0 s
run_begun task lines s h = record { steps = []; are = refl; executed = sym h }

-- one line more
pub run_more : (task : Task) (lines : List PlanLine) (i : ℕ) (l : PlanLine) (s after : State) →
    i < length lines → l ≡ get_or lines i l →
    IsRun task lines i s → IsExecuted task s l after → IsRun task lines (i + 1) after
run_more task lines i l s after within reads run e = record {
  steps = run.steps ++ e.step ∷ [];
  are = take_more lines i l within ∙ ap (λ (x : PlanLine). take i lines ++ x ∷ []) (sym reads ∙ e.is) ∙
      ap (λ (t : List PlanLine). t ++ line.Step e.step ∷ []) run.are ∙
      sym (map-append line.Step run.steps (e.step ∷ []));
  executed = executes_joined task (initial task) s after run.steps (e.step ∷ []) run.executed
      (e.applicable, sym e.leads);
}

-- a line that is refused after the lines before it
pub run_refused : (task : Task) (lines : List PlanLine) (i : ℕ) (l : PlanLine) (s : State) (why : Reason)
    (number : ℕ) → i < length lines → l ≡ get_or lines i l →
    IsRun task lines i s → IsRefused task s l why → number ≡ i + 1 → IsFirstRefused task lines number why
run_refused task lines i l s why number within reads run refused is = record {
  before = run.steps;
  at = l;
  after = drop (suc i) lines;
  state = s;
  lines_are = sym (take-append-drop i lines) ∙ ap (λ (t : List PlanLine). t ++ drop i lines) run.are ∙
      ap (λ (t : List PlanLine). map line.Step run.steps ++ t) (drop-cons lines i l within) ∙
      ap (λ (x : PlanLine). map line.Step run.steps ++ x ∷ drop (suc i) lines) (sym reads);
  counted =
      let taken : length (take i lines) ≡ i = length-take-le i lines (omega arith) in
      let steps : length (take i lines) ≡ length run.steps = ap length run.are ∙
      length-map run.steps line.Step in
      omega arith;
  executed = run.executed;
  refused = refused;
}

-- what holds of an option that has no value
pub none_left : {A : Type 0} (o : Option A) (P : Type 0) (Q : A → Type 0) → MatchOption o P Q →
    ((a : A) → o ≡ Some a → ⊥) → P
none_left None P Q h none = h
none_left (Some a) P Q h none = absurd (none a refl)

-- steps that make the same lines are the same
same_steps : (xs ys : List Instance) → map line.Step xs ≡ map line.Step ys → xs ≡ ys
same_steps [] [] h = refl
same_steps [] (y ∷ ys) h = cc
same_steps (x ∷ xs) [] h = cc
same_steps (x ∷ xs) (y ∷ ys) h =
    let first : x ≡ y = cc in
    let tails : map line.Step xs ≡ map line.Step ys = cc in
    let rest : xs ≡ ys = same_steps xs ys tails in cc

-- a line that is a step is refused only where the step is not applicable
step_refused : (task : Task) (s : State) (at : PlanLine) (why : Reason) (step : Instance) →
    at ≡ line.Step step → IsRefused task s at why → IsApplicable task s step → ⊥
step_refused task s at why step is refused =
    let here : (why ≡ reason.Inapplicable) × (IsApplicable task s step → ⊥) =
    subst (λ (l : PlanLine). IsRefused task s l why) is refused in here.1

-- lines of which one is refused are not the lines of steps that are executed
not_all : (task : Task) (s : State) (before : List Instance) (at : PlanLine) (after : List PlanLine)
    (steps : List Instance) (state last : State) (why : Reason) →
    map line.Step before ++ at ∷ after ≡ map line.Step steps → Executes task s before state →
    IsRefused task state at why → Executes task s steps last → ⊥
not_all task s [] at after [] state last why are executed refused whole = cc
not_all task s [] at after (x ∷ steps) state last why are executed refused whole =
    let is : at ≡ line.Step x = cc in
    step_refused task s at why x is (subst (λ (t : State). IsRefused task t at why) (sym executed) refused)
    whole.0
not_all task s (b ∷ before) at after [] state last why are executed refused whole = cc
not_all task s (b ∷ before) at after (x ∷ steps) state last why are executed refused whole =
    let one : b ≡ x = cc in
    let rest : map line.Step before ++ at ∷ after ≡ map line.Step steps = cc in
    not_all task (result_of task s x) before at after steps state last why rest
    (subst (λ (y : Instance). Executes task (result_of task s y) before state) one executed.1) refused whole.1

-- the reason of a refusal is one
one_reason : (task : Task) (s : State) (at : PlanLine) (why other : Reason) → IsRefused task s at why →
    IsRefused task s at other → why ≡ other
one_reason task s (line.Step step) why other p q = p.0 ∙ sym q.0
one_reason task s line.UnknownAction why other p q = p ∙ sym q
one_reason task s line.Arguments why other p q = p ∙ sym q
one_reason task s line.UnknownObject why other p q = p ∙ sym q

-- the first line that is refused is one
one_first : (task : Task) (s : State) (before before' : List Instance) (at at' : PlanLine)
    (after after' : List PlanLine) (state state' : State) (why why' : Reason) →
    map line.Step before ++ at ∷ after ≡ map line.Step before' ++ at' ∷ after' →
    Executes task s before state → IsRefused task state at why → Executes task s before' state' →
    IsRefused task state' at' why' →
    (length before ≡ length before') × (why ≡ why')
one_first task s [] [] at at' after after' state state' why why' are p refused q refused' =
    let same : at ≡ at' = cc in
    let states : state ≡ state' = sym p ∙ q in (
      refl,
      one_reason task state' at' why why' (subst (λ (t : State). IsRefused task t at' why) states
          (subst (λ (l : PlanLine). IsRefused task state l why) same refused)) refused',
    )
one_first task s [] (x ∷ before') at at' after after' state state' why why' are p refused q refused' =
    let is : at ≡ line.Step x = cc in
    absurd (step_refused task s at why x is (subst (λ (t : State). IsRefused task t at why) (sym p) refused)
    q.0)
one_first task s (b ∷ before) [] at at' after after' state state' why why' are p refused q refused' =
    let is : at' ≡ line.Step b = cc in
    absurd (step_refused task s at' why' b is
    (subst (λ (t : State). IsRefused task t at' why') (sym q) refused') p.0)
one_first task s (b ∷ before) (x ∷ before') at at' after after' state state' why why'
    are p refused q refused' =
    let one : b ≡ x = cc in
    let rest : map line.Step before ++ at ∷ after ≡ map line.Step before' ++ at' ∷ after' = cc in
    let same : (length before ≡ length before') × (why ≡ why') = one_first task (result_of task s x) before
    before' at at' after after' state state' why why' rest
    (subst (λ (y : Instance). Executes task (result_of task s y) before state) one p.1) refused q.1
    refused' in
    (ap suc same.0, same.1)

refused_apart : (task : Task) (lines : List PlanLine) (number : ℕ) (why : Reason) →
    IsFirstRefused task lines number why →
    (steps : List Instance) (last : State) → lines ≡ map line.Step steps →
    Executes task (initial task) steps last → ⊥
refused_apart task lines number why h steps last are executed =
    not_all task (initial task) h.before h.at h.after steps h.state last why (sym h.lines_are ∙ are)
    h.executed h.refused executed

-- lines that are missed are not those of a plan
missed_apart : (task : Task) (lines : List PlanLine) → IsMissed task lines →
    (steps : List Instance) (last : State) → lines ≡ map line.Step steps →
    Executes task (initial task) steps last → IsTrue (is_goal task last) → ⊥
missed_apart task lines h steps last are executed met =
    let same : h.steps ≡ steps = same_steps h.steps steps (sym h.lines_are ∙ are) in
    let states : h.state ≡ last = one_end task (initial task) h.state last steps
    (subst (λ (l : List Instance). Executes task (initial task) l h.state) same h.executed) executed in
    let missed : is_goal task h.state ≡ false = not-true (is_goal task h.state) h.missed in
    false≢true (sym missed ∙ ap (is_goal task) states ∙ met)

-- a list of lines has one verdict
pub verdict_is_one : (task : Task) (lines : List PlanLine) (v w : Verdict) → IsVerdict task lines v →
    IsVerdict task lines w → v ≡ w
verdict_is_one task lines (verdict.Valid n) (verdict.Valid m) p q = ap verdict.Valid (p.0 ∙ sym q.0)
verdict_is_one task lines (verdict.Valid n) (verdict.Invalid m why) (_, (steps, are, (last, executed, met)))
    q = absurd (refused_apart task lines m why q steps last are executed)
verdict_is_one task lines (verdict.Valid n) verdict.GoalMissed (_, (steps, are, (last, executed, met))) q =
    absurd (missed_apart task lines q steps last are executed met)
verdict_is_one task lines (verdict.Invalid n why) (verdict.Valid m) p
    (_, (steps, are, (last, executed, met))) =
    absurd (refused_apart task lines n why p steps last are executed)
verdict_is_one task lines (verdict.Invalid n why) (verdict.Invalid m other) p q =
    let same : (length p.before ≡ length q.before) × (why ≡ other) =
    one_first task (initial task) p.before q.before p.at q.at p.after q.after p.state q.state why other
    (sym p.lines_are ∙ q.lines_are) p.executed p.refused q.executed q.refused in
    let numbers : n ≡ m = p.counted ∙ ap (λ k. k + 1) same.0 ∙ sym q.counted in
    ap (λ k. verdict.Invalid k why) numbers ∙ ap (verdict.Invalid m) same.1
verdict_is_one task lines (verdict.Invalid n why) verdict.GoalMissed p q =
    absurd (refused_apart task lines n why p q.steps q.state q.lines_are q.executed)
verdict_is_one task lines verdict.GoalMissed (verdict.Valid m) p (_, (steps, are, (last, executed, met))) =
    absurd (missed_apart task lines p steps last are executed met)
verdict_is_one task lines verdict.GoalMissed (verdict.Invalid m other) p q =
    absurd (refused_apart task lines m other q p.steps p.state p.lines_are p.executed)
verdict_is_one task lines verdict.GoalMissed verdict.GoalMissed p q = refl
