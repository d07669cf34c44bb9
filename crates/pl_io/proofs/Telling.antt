-- The names begun in several calls, one call after the other.
use Rattle.std.proofs.Common.{ℕ, List, ◌++◌, Some, None, ◌∙◌, ap, append_assoc}
use Rattle.std.specs.Prelude.{Option}
use Rattle.pl_io.specs.Outside.{BegunThen}

pub BegunThen-trans : (old mid new : Option (List (List ℕ))) (names more : List (List ℕ))
    → BegunThen old names mid → BegunThen mid more new → BegunThen old (names ++ more) new
BegunThen-trans old mid None names more first second = tt
BegunThen-trans old None (Some zs) names more first second = absurd second
BegunThen-trans None (Some ys) (Some zs) names more first second = absurd first
BegunThen-trans (Some xs) (Some ys) (Some zs) names more first second =
    second ∙ ap (λ (l : List (List ℕ)). l ++ more) first ∙ append_assoc xs names more
