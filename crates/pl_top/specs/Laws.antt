-- Laws of outcomes: over told files a request has one outcome.
use Rattle.std.specs.Prelude.{◌≡◌, ℕ, List, Some}
use Rattle.pl_io.specs.Outside.{NamedBytes}
use Rattle.pl_top.specs.Answer.{Outcome, IsAnswer}
use Rattle.pl_top.specs.Request.{Request, request_of}
use Rattle.pl_top.specs.Searching.{CanRun}

-- Over told files a request has one outcome at most, however much was read of the file at hand.
abbrev pub OutcomeIsOne : Type 0
OutcomeIsOne =
    (request : Request) (files : List NamedBytes) (place place' : ℕ) (outcome other : Outcome) →
    IsAnswer request (Some files) place outcome → IsAnswer request (Some files) place' other → outcome ≡ other

-- Each request that words are can run.
abbrev pub RequestsCanRun : Type 0
RequestsCanRun =
    (words : List (List ℕ)) (request : Request) → Some request ≡ request_of words → CanRun request

-- Over told files a request that can run has an outcome.
abbrev pub OutcomeIsThere : Type 0
OutcomeIsThere =
    (request : Request) (files : List NamedBytes) (place : ℕ) → CanRun request →
    (outcome : Outcome) × IsAnswer request (Some files) place outcome
