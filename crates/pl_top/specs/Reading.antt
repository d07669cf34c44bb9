-- The domain and the problem of a request, which are read before its other files.
use Rattle.std.specs.Prelude.{◌≡◌, ℕ, List, ◌∷◌, Option, Some}
use Rattle.pl_io.specs.Outside.{NamedBytes}
use Rattle.pl_check.specs.declared.role.FileRole.{FileRole}
use Rattle.pl_check.specs.declared.role.FileRole.TheVariants.{Domain, Problem}
use Rattle.pl_top.specs.Answer.{Outcome, IsAnswer, IsRead}
use Rattle.pl_top.specs.Request.{Request, files_of, name_of}

-- the request's first files are this domain and this problem, and the first of both that isn't read whole
-- decides its answer
pub record BeginsWith (request : Request) (domain problem : List ℕ) : Type 0 where
  pub rest : List (FileRole × List ℕ)
  pub files_are : files_of request ≡ (Domain, domain) ∷ (Problem, problem) ∷ rest
  pub domain_is : name_of request Domain ≡ Some domain
  pub problem_is : name_of request Problem ≡ Some problem
  pub stops : (files : Option (List NamedBytes)) (place : ℕ) (outcome : Outcome) →
      IsRead files place domain Domain outcome (λ _. IsRead files place problem Problem outcome (λ _. ⊥)) →
      IsAnswer request files place outcome
