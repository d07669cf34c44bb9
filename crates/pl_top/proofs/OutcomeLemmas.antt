-- Over told files a request has one outcome.
use Rattle.std.proofs.Common.{◌≡◌, ℕ, ◌≤◌, nat_le, Bool, true, false, cond, List, [], length, Option, None}
use Rattle.std.proofs.Common.{Some, ◌⊎◌, inl, inr, refl, sym, ◌∙◌, ap, subst, arith}
use Rattle.std.proofs.lemmas.Bool.{leb-true}
use Rattle.pl_io.specs.Outside.{NamedBytes, content_of, most_file_bytes}
use Rattle.pl_task.specs.declared.task.Task.{Task}
use Rattle.pl_task.specs.States.{initial}
use Rattle.pl_check.specs.Laws.{FirstFaultIsOne, TaskIsOne, FaultOrTask}
use Rattle.pl_check.specs.Laws.{FaultExcludesTask, LinesAreOne, PlanFaultIsOne, HasPlanFault, HasLines}
use Rattle.pl_check.specs.Laws.{FaultOrLines, FaultExcludesLines}
use Rattle.pl_check.specs.Stated.{AreStated}
use Rattle.pl_check.specs.declared.role.FileRole.{FileRole}
use Rattle.pl_check.specs.declared.role.FileRole.TheVariants.{Domain, Problem, Plan}
use Rattle.pl_valid.specs.Verdict.{IsVerdict}
use Rattle.pl_hooks.specs.Hopeless.{is_hopeless}
use Rattle.pl_top.specs.Answer.{Outcome, Reading, IsMadeOutcome, Absent, Overlong, Whole, reading_of, GoesOn}
use Rattle.pl_top.specs.Answer.{IsRead, IsPlanRead, IsFaultOfPlan, IsVerdictOn, IsJudged, IsListed, IsPlanned}
use Rattle.pl_top.specs.Answer.{IsPlanJudged, IsTaskPlanned, IsTaskMade, IsSearchOutcome, IsMadeOf}
use Rattle.pl_top.specs.Answer.{search_outcome, cannot_read, too_long, faulty, verdict_outcome}
use Rattle.pl_top.specs.Laws.{OutcomeIsOne, OutcomeIsThere}
use Rattle.pl_registry.proofs.SearchLaws.{endings_one, all_have_ending}
use Rattle.pl_make.specs.Texts.{domain_text, problem_text}
use Rattle.pl_make.proofs.Lengths.{domain_text-short, problem_text-short}
use Rattle.pl_top.specs.Request.{PlanOptions, Validate, Successors, FindPlan, Make}
use Rattle.pl_top.specs.Searching.{limit_of, search_of}
use Rattle.pl_top.proofs.MadeLemmas.{made_search_one, made_search_there}
use Rattle.pl_top.proofs.ListedLemmas.{IsShort, listed_one, listed_there}
use Rattle.pl_top.proofs.StatedLemmas.{input_one, input_there}
use Rattle.pl_top.proofs.VerdictLemmas.{verdict_from, verdict_only, verdict_holds}

-- ---- one at most

-- what the reading of a file comes to is one outcome, where its bytes give one
gone_on : (role : FileRole) (outcome other : Outcome) (F G : List ℕ → Type 0) →
    ((bytes : List ℕ) → F bytes → G bytes → outcome ≡ other) → (reading : Reading) →
    GoesOn role outcome F reading → GoesOn role other G reading → outcome ≡ other
gone_on role outcome other F G further Absent h k = h ∙ sym k
gone_on role outcome other F G further Overlong h k = h ∙ sym k
gone_on role outcome other F G further (Whole bytes) h k = further bytes h k

read_one : (files : List NamedBytes) (place place' : ℕ) (name : List ℕ) (role : FileRole)
    (outcome other : Outcome)
    (F G : List ℕ → Type 0) → ((bytes : List ℕ) → F bytes → G bytes → outcome ≡ other) →
    IsRead (Some files) place name role outcome F → IsRead (Some files) place' name role other G
    → outcome ≡ other
read_one files place place' name role outcome other F G further h k =
    let same : k.reading ≡ h.reading = k.of_file ∙ sym h.of_file in
    gone_on role outcome other F G further h.reading h.goes_on (subst (GoesOn role other G) same k.goes_on)

-- what the reading of a plan file comes to is one outcome, also where none is named
plan_read_one : (files : List NamedBytes) (place place' : ℕ) (after : Option (List ℕ))
    (outcome other : Outcome) (F G : Option (List ℕ) → Type 0) →
    ((bytes : Option (List ℕ)) → F bytes → G bytes → outcome ≡ other) →
    IsPlanRead (Some files) place after outcome F → IsPlanRead (Some files) place' after other G →
    outcome ≡ other
plan_read_one files place place' None outcome other F G further h k = further None h k
plan_read_one files place place' (Some name) outcome other F G further h k =
    read_one files place place' name Plan outcome other (λ bytes. F (Some bytes)) (λ bytes. G (Some bytes))
    (λ bytes. further (Some bytes)) h k

module _ (first_one : FirstFaultIsOne) (task_one : TaskIsOne) (excludes_task : FaultExcludesTask)
    (plan_one : PlanFaultIsOne) (lines_one : LinesAreOne) (excludes_lines : FaultExcludesLines) where
  -- the verdict on a plan file is one
  verdict_one : (task : Task) (plan : List ℕ) (outcome other : Outcome) → IsVerdictOn task plan outcome →
      IsVerdictOn task plan other → outcome ≡ other
  verdict_one task plan outcome other h k =
      let lines = lines_one plan task h.lines k.lines h.are k.are in
      let is = verdict_only task k.lines h.verdict
      (subst (λ ls. IsVerdict task ls h.verdict) lines h.is_verdict) in
      let is' = verdict_only task k.lines k.verdict k.is_verdict in
      h.comes ∙ ap verdict_outcome (sym is ∙ is') ∙ sym k.comes

  -- a plan file has one fault, or one verdict
  plan_judged : (task : Task) (plan : List ℕ) (outcome other : Outcome) →
      IsFaultOfPlan plan outcome ⊎ IsVerdictOn task plan outcome →
      IsFaultOfPlan plan other ⊎ IsVerdictOn task plan other → outcome ≡ other
  plan_judged task plan outcome other (inl h) (inl k) =
      h.comes ∙ ap (faulty plan) (plan_one plan h.found k.found h.is_first k.is_first) ∙ sym k.comes
  plan_judged task plan outcome other (inl h) (inr k) =
      absurd (excludes_lines plan task h.found k.lines h.is_first k.are)
  plan_judged task plan outcome other (inr h) (inl k) =
      absurd (excludes_lines plan task k.found h.lines k.is_first h.are)
  plan_judged task plan outcome other (inr h) (inr k) = verdict_one task plan outcome other h k

  -- the bytes of three files have one outcome
  judged_one : (domain problem plan : List ℕ) (outcome other : Outcome)
      → IsJudged domain problem plan outcome →
      IsJudged domain problem plan other → outcome ≡ other
  judged_one domain problem plan outcome other =
      input_one first_one task_one excludes_task domain problem outcome other
      (IsPlanJudged domain problem plan) (λ o task. IsFaultOfPlan plan o ⊎ IsVerdictOn task plan o)
      (λ o h. (h.task, h.stated, h.judged)) (λ task. plan_judged task plan outcome other)

  -- how a search of one task ends is one outcome
  search_one : (task : Task) (options : PlanOptions) (outcome other : Outcome)
      → IsSearchOutcome task options outcome →
      IsSearchOutcome task options other → outcome ≡ other
  search_one task options outcome other h k =
      let one = endings_one task (search_of options) (limit_of options)
      (is_hopeless task) h.searched.of k.searched.of h.ending k.ending
      h.stats k.stats h.searched.ends k.searched.ends in
      h.comes ∙ ap (λ e. search_outcome task options e h.stats) one.1
      ∙ ap (search_outcome task options k.ending) one.2 ∙ sym k.comes

  -- the bytes of two files have one outcome
  planned_one : (domain problem : List ℕ) (options : PlanOptions) (outcome other : Outcome) →
      IsPlanned domain problem options outcome → IsPlanned domain problem options other → outcome ≡ other
  planned_one domain problem options outcome other =
      input_one first_one task_one excludes_task domain problem outcome other
      (IsTaskPlanned domain problem options) (λ o task. IsSearchOutcome task options o)
      (λ o h. (h.task, h.stated, h.planned)) (λ task. search_one task options outcome other)

  -- the texts of a made task have one outcome
  made_one : (domain problem : List ℕ) (outcome other : Outcome) → IsMadeOf domain problem outcome →
      IsMadeOf domain problem other → outcome ≡ other
  made_one domain problem outcome other =
      input_one first_one task_one excludes_task domain problem outcome other (IsTaskMade domain problem)
      (λ o task. IsMadeOutcome task o) (λ o h. (h.task, h.stated, h.made))
      (λ task. made_search_one task outcome other)

  pub outcome_one : OutcomeIsOne
  outcome_one (Validate domain problem plan) files place place' outcome other =
      read_one files place place' domain Domain outcome other _ _
      (λ d. read_one files place place' problem Problem outcome other _ _
      (λ p. read_one files place place' plan Plan outcome other _ _ (λ l. judged_one d p l outcome other)))
  outcome_one (Successors domain problem options) files place place' outcome other =
      read_one files place place' domain Domain outcome other _ _
      (λ d. read_one files place place' problem Problem outcome other _ _
      (λ p. plan_read_one files place place' options.after outcome other
      (λ l. IsListed d p l options.past options.count outcome)
      (λ l. IsListed d p l options.past options.count other)
      (λ l. listed_one first_one task_one excludes_task plan_one lines_one excludes_lines d p l options.past
      options.count outcome other)))
  outcome_one (FindPlan domain problem options) files place place' outcome other =
      read_one files place place' domain Domain outcome other _ _
      (λ d. read_one files place place' problem Problem outcome other _ _
      (λ p. planned_one d p options outcome other))
  outcome_one (Make kind n start) files place place' outcome other =
      made_one (domain_text kind) (problem_text kind n start) outcome other

-- ---- there is one

-- a file that is read whole is within the limit
whole_short : (content : Option (List ℕ)) (bytes : List ℕ) → reading_of content ≡ Whole bytes →
    length bytes ≤ most_file_bytes
whole_short None bytes is = cc
whole_short (Some content) bytes is = by_length (nat_le (length content) most_file_bytes) refl is
  where
    by_length : (short : Bool) → nat_le (length content) most_file_bytes ≡ short →
        cond short (Whole content) Overlong ≡ Whole bytes → length bytes ≤ most_file_bytes
    by_length true test is =
        (let same : content ≡ bytes = cc in omega
        (arith, leb-true (length content) most_file_bytes test, ap length same))
    by_length false test is = cc

-- a file that is read gives an outcome, where its bytes give one
read_there : (files : List NamedBytes) (place : ℕ) (name : List ℕ) (role : FileRole)
    (F : Outcome → List ℕ → Type 0) →
    ((bytes : List ℕ) → length bytes ≤ most_file_bytes → (outcome : Outcome) × F outcome bytes) →
    (outcome : Outcome) × IsRead (Some files) place name role outcome (F outcome)
read_there files place name role F further = by_reading (reading_of (content_of files name)) refl
  where
    by_reading : (reading : Reading) → reading_of (content_of files name) ≡ reading →
        (outcome : Outcome) × IsRead (Some files) place name role outcome (F outcome)
    by_reading Absent is = (cannot_read role, record { reading = Absent; of_file = sym is; goes_on = refl })
    by_reading Overlong is = (too_long role, record { reading = Overlong; of_file = sym is; goes_on = refl })
    by_reading (Whole bytes) is =
        (let found = further bytes (whole_short (content_of files name) bytes is) in
        (found.0, record { reading = Whole bytes; of_file = sym is; goes_on = found.1 }))

-- a plan file that is read, or none where none is named, gives an outcome, where its bytes give one
plan_read_there : (files : List NamedBytes) (place : ℕ) (after : Option (List ℕ))
    (F : Outcome → Option (List ℕ) → Type 0) →
    ((bytes : Option (List ℕ)) → IsShort bytes → (outcome : Outcome) × F outcome bytes) →
    (outcome : Outcome) × IsPlanRead (Some files) place after outcome (F outcome)
plan_read_there files place None F further = further None tt
plan_read_there files place (Some name) F further =
    read_there files place name Plan (λ outcome bytes. F outcome (Some bytes)) (λ bytes. further (Some bytes))

module _ (fault_or_task : FaultOrTask) (fault_or_lines : FaultOrLines) (excludes_lines : FaultExcludesLines)
    (lines_one : LinesAreOne) where
  -- a plan file gives an outcome for a task
  plan_there : (domain problem plan : List ℕ) → length plan ≤ most_file_bytes → (task : Task) →
      AreStated domain problem task → (outcome : Outcome) × IsPlanJudged domain problem plan outcome
  plan_there domain problem plan short task stated = by_plan (fault_or_lines plan task short)
    where
      by_plan : HasPlanFault plan ⊎ HasLines plan task → (outcome : Outcome)
          × IsPlanJudged domain problem plan outcome
      by_plan (inl faulted) = (
        faulty plan faulted.0,
        record {
          task = task;
          stated = stated;
          judged = inl (record { found = faulted.0; is_first = faulted.1; comes = refl });
        },
      )
      by_plan (inr lined) = (
        verdict_outcome (verdict_from task (initial task) 0 lined.0),
        record {
          task = task;
          stated = stated;
          judged = inr (record {
            lines = lined.0;
            are = lined.1;
            verdict = verdict_from task (initial task) 0 lined.0;
            is_verdict = verdict_holds task lined.0 lined.0 [] (initial task) 0 refl refl refl;
            comes = refl;
          });
        },
      )

  -- three files that are read whole give an outcome
  judged_there : (domain problem plan : List ℕ) → length domain ≤ most_file_bytes →
      length problem ≤ most_file_bytes → length plan ≤ most_file_bytes →
      (outcome : Outcome) × IsJudged domain problem plan outcome
  judged_there domain problem plan dle ple lle =
      input_there fault_or_task domain problem (IsPlanJudged domain problem plan) dle ple
      (plan_there domain problem plan lle)

  -- two files that are read whole give an outcome
  planned_there : (domain problem : List ℕ) (options : PlanOptions) → length domain ≤ most_file_bytes →
      length problem ≤ most_file_bytes → 1 ≤ limit_of options →
      (outcome : Outcome) × IsPlanned domain problem options outcome
  planned_there domain problem options dle ple some =
      input_there fault_or_task domain problem (IsTaskPlanned domain problem options) dle ple search_there
    where
      search_there : (task : Task) → AreStated domain problem task →
          (outcome : Outcome) × IsTaskPlanned domain problem options outcome
      search_there task stated =
          let (of, ending, stats, ends) = all_have_ending task (search_of options) (is_hopeless task)
          (limit_of options) some in (
            search_outcome task options ending stats,
            record {
              task = task;
              stated = stated;
              planned = record {
                ending = ending;
                stats = stats;
                searched = record { of = of; ends = ends };
                comes = refl;
              };
            },
          )

  -- the texts of a made task give an outcome
  made_there : (domain problem : List ℕ) → length domain ≤ most_file_bytes
      → length problem ≤ most_file_bytes →
      (outcome : Outcome) × IsMadeOf domain problem outcome
  made_there domain problem dle ple =
      input_there fault_or_task domain problem (IsTaskMade domain problem) dle ple
      (λ task stated. (let found = made_search_there task in
      (found.0, record { task = task; stated = stated; made = found.1 })))

  pub outcome_there : OutcomeIsThere
  outcome_there (Validate domain problem plan) files place runs =
      read_there files place domain Domain _
      (λ d dle. read_there files place problem Problem _
      (λ p ple. read_there files place plan Plan _ (λ l lle. judged_there d p l dle ple lle)))
  outcome_there (Successors domain problem options) files place runs =
      read_there files place domain Domain _
      (λ d dle. read_there files place problem Problem _
      (λ p ple. plan_read_there files place options.after
      (λ outcome l. IsListed d p l options.past options.count outcome)
      (λ l lle. listed_there fault_or_lines excludes_lines lines_one fault_or_task d p l options.past
      options.count dle ple lle)))
  outcome_there (FindPlan domain problem options) files place runs =
      read_there files place domain Domain _
      (λ d dle. read_there files place problem Problem _ (λ p ple. planned_there d p options dle ple runs.0))
  outcome_there (Make kind n start) files place runs =
      made_there (domain_text kind) (problem_text kind n start) (domain_text-short kind)
      (problem_text-short kind n start runs)
