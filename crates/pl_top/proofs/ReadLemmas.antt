-- The files of a request, read one after the other: a domain, a problem, and maybe a plan.
use Rattle.std.proofs.Common.{◌≡◌, ℕ, ◌≤◌, List, [], ◌∷◌, ◌++◌, take, map, Option, Some, None, refl}
use Rattle.std.proofs.Common.{sym, ◌∙◌, ap, subst, arith}
use Rattle.pl_io.specs.Outside.{NamedBytes, ShelfSeen, BegunThen}
use Rattle.pl_check.specs.declared.role.FileRole.{FileRole}
use Rattle.pl_check.specs.declared.role.FileRole.TheVariants.{Domain, Problem, Plan}
use Rattle.pl_top.specs.declared.refusal.Refusal.{Refusal}
use Rattle.pl_top.specs.Answer.{Outcome, Whole, IsReadingOf, IsRead, IsAnswer, IsPlanRead, IsJudged, IsListed}
use Rattle.pl_top.specs.Answer.{IsPlanned}
use Rattle.pl_top.specs.Reading.{BeginsWith}
use Rattle.pl_top.specs.Refusal.{HasBegun, IsRefused, IsUnread, IsUnanswered, IsPlanUnread, IsPlanWhole}
use Rattle.pl_top.specs.Refusal.{names_after}
use Rattle.pl_top.specs.Request.{Request, Options, PlanOptions, Validate, Successors, FindPlan, files_of}
use Rattle.pl_top.specs.Request.{name_of, plan_files}
use Rattle.pl_top.proofs.FileLemmas.{begun_first, begun_next, begun_more, IsRead-weaker, unanswered, unread}

-- a reading is one of the same files
pub moved : (files others : Option (List NamedBytes)) (name bytes : List ℕ) → others ≡ files
    → ((place : ℕ) → IsReadingOf others place name (Whole bytes)) → (place : ℕ)
    → IsReadingOf files place name (Whole bytes)
moved files others name bytes same whole place =
    subst (λ f. IsReadingOf f place name (Whole bytes)) same (whole place)

-- a plan file is whole in the same files
pub moved_plan : (files others : Option (List NamedBytes)) (after bytes : Option (List ℕ)) → others ≡ files
    → IsPlanWhole after others bytes → IsPlanWhole after files bytes
moved_plan files others after bytes same whole = subst (λ f. IsPlanWhole after f bytes) same whole

-- what files have as roles and as names
abbrev roles_in : List (FileRole × List ℕ) → List FileRole
roles_in files = map (λ (file : FileRole × List ℕ). file.0) files

abbrev names_in : List (FileRole × List ℕ) → List (List ℕ)
names_in files = map (λ (file : FileRole × List ℕ). file.1) files

-- The domain and the problem.
module _ {request : Request} {domain problem : List ℕ} (begins : BeginsWith request domain problem) where
  after_domain : (shelf one : ShelfSeen) → one.files ≡ shelf.files → shelf.faults ≤ one.faults
      → BegunThen shelf.begun (domain ∷ []) one.begun → HasBegun request 1 shelf one
  after_domain shelf one =
      begun_first request domain shelf one (ap (λ fs. take 1 (names_in fs)) begins.files_are)

  pub after_problem : (shelf one two : ShelfSeen) → one.files ≡ shelf.files → shelf.faults ≤ one.faults
      → BegunThen shelf.begun (domain ∷ []) one.begun → two.files ≡ one.files → one.faults ≤ two.faults
      → BegunThen one.begun (problem ∷ []) two.begun → HasBegun request 2 shelf two
  after_problem shelf one two files faults begun =
      begun_next request 1 2 problem shelf one two
      (ap (λ fs. take 2 (names_in fs)) begins.files_are
      ∙ sym (ap (λ fs. take 1 (names_in fs) ++ problem ∷ []) begins.files_are))
      (after_domain shelf one files faults begun)

  -- the domain isn't read whole
  pub no_domain : (shelf one : ShelfSeen) (r : Refusal) → one.files ≡ shelf.files → shelf.faults ≤ one.faults
      → BegunThen shelf.begun (domain ∷ []) one.begun → IsUnread domain Domain shelf one r
      → IsRefused request shelf one r
  no_domain shelf one r files faults begun =
      unread request 1 domain Domain shelf shelf one r begins.domain_is
      ([], ap (λ fs. take 1 (roles_in fs)) begins.files_are)
      (after_domain shelf one files faults begun) refl (omega arith)
      (λ outcome stops. begins.stops shelf.files one.place outcome
      (IsRead-weaker shelf.files one.place domain Domain outcome _ _ (λ bytes none. absurd none) stops))

  -- the problem isn't read whole
  pub no_problem : (shelf one two : ShelfSeen) (d : List ℕ) (r : Refusal)
      → ((place : ℕ) → IsReadingOf shelf.files place domain (Whole d))
      → one.files ≡ shelf.files → shelf.faults ≤ one.faults
      → BegunThen shelf.begun (domain ∷ []) one.begun → two.files ≡ one.files → one.faults ≤ two.faults
      → BegunThen one.begun (problem ∷ []) two.begun → IsUnread problem Problem one two r
      → IsRefused request shelf two r
  no_problem shelf one two d r first files faults begun files' faults' begun' =
      unread request 2 problem Problem shelf one two r begins.problem_is
      (Domain ∷ [], ap (λ fs. take 2 (roles_in fs)) begins.files_are)
      (after_problem shelf one two files faults begun files' faults' begun') files faults
      (λ outcome stops. begins.stops shelf.files two.place outcome
      (record { reading = Whole d; of_file = first two.place; goes_on = stops }))

-- a request whose files are these, and whose answer is what their bytes come to
pub record IsOver (request : Request) (domain problem : List ℕ) (plan : Option (List ℕ))
    (IsOutcome : List ℕ → List ℕ → Option (List ℕ) → Outcome → Type 0) : Type 0 where
  pub files_are : files_of request ≡ (Domain, domain) ∷ (Problem, problem) ∷ plan_files plan
  pub domain_is : name_of request Domain ≡ Some domain
  pub problem_is : name_of request Problem ≡ Some problem
  pub plan_is : name_of request Plan ≡ plan
  pub answers : (files : Option (List NamedBytes)) (place : ℕ) (outcome : Outcome) →
      IsRead files place domain Domain outcome (λ d. IsRead files place problem Problem outcome
      (λ p. IsPlanRead files place plan outcome (λ l. IsOutcome d p l outcome))) →
      IsAnswer request files place outcome

-- a plan is judged, where there is one
abbrev pub IsJudgedAny : List ℕ → List ℕ → Option (List ℕ) → Outcome → Type 0
IsJudgedAny domain problem None outcome = ⊥
IsJudgedAny domain problem (Some plan) outcome = IsJudged domain problem plan outcome

pub over_validate : (domain problem plan : List ℕ) →
    IsOver (Validate domain problem plan) domain problem (Some plan) IsJudgedAny
over_validate domain problem plan = record {
  files_are = refl;
  domain_is = refl;
  problem_is = refl;
  plan_is = refl;
  answers = λ files place outcome h. h;
}

pub over_successors : (domain problem : List ℕ) (options : Options) →
    IsOver (Successors domain problem options) domain problem options.after
    (λ d p l. IsListed d p l options.past options.count)
over_successors domain problem options = record {
  files_are = refl;
  domain_is = refl;
  problem_is = refl;
  plan_is = refl;
  answers = λ files place outcome h. h;
}

pub over_plan : (domain problem : List ℕ) (options : PlanOptions) →
    IsOver (FindPlan domain problem options) domain problem None (λ d p l. IsPlanned d p options)
over_plan domain problem options = record {
  files_are = refl;
  domain_is = refl;
  problem_is = refl;
  plan_is = refl;
  answers = λ files place outcome h. h;
}

-- what is looked at further is looked at behind the plan file
plan_read : (files : Option (List NamedBytes)) (place : ℕ) (plan bytes : Option (List ℕ)) (outcome : Outcome)
    (Further : Option (List ℕ) → Type 0) → IsPlanWhole plan files bytes → Further bytes
    → IsPlanRead files place plan outcome Further
plan_read files place None None outcome Further whole h = h
plan_read files place None (Some bytes) outcome Further whole h = absurd whole
plan_read files place (Some name) None outcome Further whole h = absurd whole
plan_read files place (Some name) (Some bytes) outcome Further whole h =
    record { reading = Whole bytes; of_file = whole.0 place; goes_on = h }

-- the names of all files
three_names : (domain problem : List ℕ) (plan : Option (List ℕ)) →
    take 3 (names_in ((Domain, domain) ∷ (Problem, problem) ∷ plan_files plan))
    ≡ domain ∷ problem ∷ names_after plan
three_names domain problem None = refl
three_names domain problem (Some name) = refl

module _ {request : Request} {domain problem : List ℕ} {plan : Option (List ℕ)}
    {IsOutcome : List ℕ → List ℕ → Option (List ℕ) → Outcome → Type 0}
    (over : IsOver request domain problem plan IsOutcome) where
  pub begins_over : BeginsWith request domain problem
  begins_over = record {
    rest = plan_files plan;
    files_are = over.files_are;
    domain_is = over.domain_is;
    problem_is = over.problem_is;
    stops = λ files place outcome stops. over.answers files place outcome
        (IsRead-weaker files place domain Domain outcome _ _
        (λ d. IsRead-weaker files place problem Problem outcome _ _ (λ p none. absurd none)) stops);
  }

  pub after_plan : (shelf two three : ShelfSeen) → HasBegun request 2 shelf two
      → three.files ≡ two.files → two.faults ≤ three.faults
      → BegunThen two.begun (names_after plan) three.begun → HasBegun request 3 shelf three
  after_plan shelf two three =
      begun_more request 2 3 (names_after plan) shelf two three
      (ap (λ fs. take 3 (names_in fs)) over.files_are ∙ three_names domain problem plan
      ∙ sym (ap (λ fs. take 2 (names_in fs) ++ names_after plan) over.files_are))

  -- the answer of files that are read whole
  pub whole_files : (files : Option (List NamedBytes)) (place : ℕ) (d p : List ℕ) (l : Option (List ℕ))
      (outcome : Outcome) → ((place : ℕ) → IsReadingOf files place domain (Whole d))
      → ((place : ℕ) → IsReadingOf files place problem (Whole p)) → IsPlanWhole plan files l
      → IsOutcome d p l outcome → IsAnswer request files place outcome
  whole_files files place d p l outcome first second third h = over.answers files place outcome (record {
    reading = Whole d;
    of_file = first place;
    goes_on = record {
      reading = Whole p;
      of_file = second place;
      goes_on = plan_read files place plan l outcome (λ bytes. IsOutcome d p bytes outcome) third h;
    };
  })

  -- files that are read whole have no answer to print
  pub no_answer : (count : ℕ) (shelf last : ShelfSeen) (d p : List ℕ) (l : Option (List ℕ))
      (Why : Outcome → Type 0) (r : Refusal)
      → ((outcome : Outcome) → Why outcome → IsOutcome d p l outcome)
      → ((place : ℕ) → IsReadingOf shelf.files place domain (Whole d))
      → ((place : ℕ) → IsReadingOf shelf.files place problem (Whole p))
      → IsPlanWhole plan shelf.files l → HasBegun request count shelf last
      → IsUnanswered Why r → IsRefused request shelf last r
  no_answer count shelf last d p l Why r comes first second third begun =
      unanswered request count shelf last Why r begun
      (λ outcome why. whole_files shelf.files last.place d p l outcome first second third (comes outcome why))

-- the plan file isn't read whole
pub no_plan : (request : Request) (domain problem : List ℕ) (plan : Option (List ℕ))
    (IsOutcome : List ℕ → List ℕ → Option (List ℕ) → Outcome → Type 0)
    (shelf two three : ShelfSeen) (d p : List ℕ) (r : Refusal)
    → IsOver request domain problem plan IsOutcome
    → ((place : ℕ) → IsReadingOf shelf.files place domain (Whole d))
    → ((place : ℕ) → IsReadingOf shelf.files place problem (Whole p))
    → HasBegun request 2 shelf two → three.files ≡ two.files → two.faults ≤ three.faults
    → BegunThen two.begun (names_after plan) three.begun → IsPlanUnread plan two three r
    → IsRefused request shelf three r
no_plan request domain problem None IsOutcome shelf two three d p r over first second before files faults
    begun h = absurd h
no_plan request domain problem (Some name) IsOutcome shelf two three d p r over first second before files
    faults begun h =
    unread request 3 name Plan shelf two three r over.plan_is
    (Domain ∷ Problem ∷ [], ap (λ fs. take 3 (roles_in fs)) over.files_are)
    (after_plan over shelf two three before files faults begun) before.files before.faults
    (λ outcome stops. over.answers shelf.files three.place outcome (record {
      reading = Whole d;
      of_file = first three.place;
      goes_on = record {
        reading = Whole p;
        of_file = second three.place;
        goes_on = IsRead-weaker shelf.files three.place name Plan outcome _ _ (λ bytes none. absurd none)
            stops;
      };
    })) h
