-- What the writing of the lines of steps promises, one line after the other.
use Rattle.std.specs.Prelude.{◌≡◌, ℕ, ◌-◌, ◌==◌, Bool, true, false, List, [], ◌∷◌, ◌++◌, Option, Some, None}
use Rattle.std.specs.Option.{option_map}
use denote.Ref.{Bor}
use Rattle.pl_io.specs.Blocks.{SendsOn}
use Rattle.pl_io.specs.Outside.{SinkSeen, AppendsFront, Rose}
use Rattle.pl_task.specs.declared.task.Task.{Task}
use Rattle.pl_task.specs.Instance.{Instance}
use Rattle.pl_print.specs.Texts.{step_text}
use Rattle.pl_top.specs.declared.listing.ListEnd.{ListEnd}
use Rattle.pl_top.specs.declared.listing.ListEnd.TheVariants as end

-- the step that is lent, where one is
abbrev pub lent : Option (Bor Instance) → Option Instance
lent step = option_map (λ (s : Bor Instance). s.now) step

-- whether no line may follow any more
abbrev pub is_spent : Option ℕ → Bool
is_spent None = false
is_spent (Some count) = count == 0

-- one line less may follow
abbrev pub one_less : Option ℕ → Option ℕ
one_less None = None
one_less (Some count) = Some (count - 1)

-- the line of the first of the steps was taken, and the others are left; `held` and `kept` are held back
-- before and after
pub record IsFirstPut (task : Task) (old new : List Instance) (before after : Option (List ℕ))
    (held kept : List ℕ) : Type 0 where
  pub step : Instance
  pub left : old ≡ step ∷ new
  pub taken : SendsOn before after held (step_text task step) kept

-- no step was left, and nothing was taken
pub record IsNonePut (old new : List Instance) (before after : Option (List ℕ))
    (held kept : List ℕ) : Type 0 where
  pub none : old ≡ []
  pub left : new ≡ []
  pub taken : SendsOn before after held [] kept

-- the line of the next step was taken, or no step was left
abbrev pub IsNextPut : Task → List Instance → List Instance → Option (List ℕ) → Option (List ℕ) → List ℕ
    → List ℕ → Bool → Type 0
IsNextPut task old new before after held kept true = IsFirstPut task old new before after held kept
IsNextPut task old new before after held kept false = IsNonePut old new before after held kept

-- a front of what was held back and the line of the first of the steps was written
pub record IsNextCut (task : Task) (old : List Instance) (before after : Option (List ℕ))
    (held : List ℕ) : Type 0 where
  pub step : Instance
  pub rest : List Instance
  pub left : old ≡ step ∷ rest
  pub front : AppendsFront before after (held ++ step_text task step)

-- why a list was not written: the sink failed within it, or memory ran out before it
abbrev pub IsListEnd : List ℕ → SinkSeen → SinkSeen → ListEnd → Type 0
IsListEnd text out out' (end.Failed failed) = AppendsFront out.written out'.written text
    × Rose out.faults out'.faults
IsListEnd text out out' (end.Memory error) = out' ≡ out
