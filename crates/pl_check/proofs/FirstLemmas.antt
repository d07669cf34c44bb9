-- Two files have one first fault.
use Rattle.std.proofs.Common.{◌≡◌, ◌⊎◌, inl, inr, ℕ, List, Option, Some, ap, sym, ◌∙◌}
use Rattle.pl_text.specs.Laws.{FaultIsOne}
use Rattle.pl_text.specs.Trees.{Trees}
use Rattle.pl_text.proofs.TreePlaceLaws.{AreTreesOf-one}
use Rattle.pl_check.specs.declared.role.FileRole.{FileRole}
use Rattle.pl_check.specs.declared.role.FileRole.TheVariants.{Domain, Problem}
use Rattle.pl_check.specs.declared.fault.InputFault.{InputFault}
use Rattle.pl_check.specs.FirstFault.{AreRead, IsTextFaultOf, IsLaterTextFault, IsFormFault, IsFirstFault}
use Rattle.pl_check.specs.FirstFault.{text_in_file, faults_of, first_of}
use Rattle.pl_check.specs.Laws.{FirstFaultIsOne}

pub text-one : FaultIsOne → (file : FileRole) (bytes : List ℕ) (fault other : InputFault) →
    IsTextFaultOf file bytes fault →
    IsTextFaultOf file bytes other → fault ≡ other
text-one one file bytes fault other h k =
    h.is ∙ ap (text_in_file file) (one bytes h.given k.given h.is_given k.is_given) ∙ sym k.is

pub text-none : (file : FileRole) (bytes : List ℕ) (trees : Trees) (fault : InputFault) →
    IsTextFaultOf file bytes fault →
    AreRead bytes trees → ⊥
text-none file bytes trees fault h read = read.faultless h.given h.is_given.has

form-one : (domain problem : List ℕ) (fault other : InputFault) → IsFormFault domain problem fault →
    IsFormFault domain problem other → fault ≡ other
form-one domain problem fault other h k =
    let domains = AreTreesOf-one domain h.domain_trees k.domain_trees h.domain_read.are k.domain_read.are in
    let problems = AreTreesOf-one problem h.problem_trees k.problem_trees h.problem_read.are
    k.problem_read.are in
    let same : Some fault ≡ Some other =
    sym h.is_first ∙
    ap (λ ts. first_of (faults_of domain ts problem h.problem_trees)) domains ∙
    ap (λ ts. first_of (faults_of domain k.domain_trees problem ts)) problems ∙
    k.is_first
    in
    cc

pub first-one : FaultIsOne → FirstFaultIsOne
first-one one domain problem fault other (inl h) (inl k) = text-one one Domain domain fault other h k
first-one one domain problem fault other (inl h) (inr (inl k)) =
    absurd (text-none Domain domain k.domain_trees fault h k.domain_read)
first-one one domain problem fault other (inl h) (inr (inr k)) =
    absurd (text-none Domain domain k.domain_trees fault h k.domain_read)
first-one one domain problem fault other (inr (inl h)) (inl k) =
    absurd (text-none Domain domain h.domain_trees other k h.domain_read)
first-one one domain problem fault other (inr (inr h)) (inl k) =
    absurd (text-none Domain domain h.domain_trees other k h.domain_read)
first-one one domain problem fault other (inr (inl h)) (inr (inl k)) =
    text-one one Problem problem fault other h.of_problem k.of_problem
first-one one domain problem fault other (inr (inl h)) (inr (inr k)) =
    absurd (text-none Problem problem k.problem_trees fault h.of_problem k.problem_read)
first-one one domain problem fault other (inr (inr h)) (inr (inl k)) =
    absurd (text-none Problem problem h.problem_trees other k.of_problem h.problem_read)
first-one one domain problem fault other (inr (inr h)) (inr (inr k)) = form-one domain problem fault other h k
