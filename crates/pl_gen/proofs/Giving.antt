-- What a walk that goes on gives, and what that takes.
use Rattle.std.proofs.Common.{◌≡◌, ℕ, ◌+◌, ◌*◌, ◌<◌, ◌≤◌, zero, suc, true, List, [], ◌∷◌, length, get_or}
use Rattle.std.proofs.Common.{Option, Some, None, slice_get, sym, ◌∙◌, ap, subst, arith, Contains}
use Rattle.std.specs.Prelude.{MatchOption, IfSome, IfNone, max}
use Rattle.std.specs.List.{fold, sum_by}
use Rattle.std.proofs.lemmas.List.Sums.{sum_by-cons}
use Rattle.std.specs.Option.{option_map}
use Rattle.std.proofs.lemmas.List.Elements.{Contains-get_or}
use Rattle.pl_task.specs.declared.data.Schema.{Schema}
use Rattle.pl_task.specs.declared.step.StepRef.{StepRef}
use Rattle.pl_task.specs.declared.task.Task.{Task}
use Rattle.pl_task.specs.Instance.{Instance}
use Rattle.pl_join.proofs.Assignments.{few_classes}
use Rattle.pl_normal.specs.Measures.{schema_size, largest_size}
use Rattle.pl_normal.specs.ParameterOrder.{classes_in_order}
use Rattle.pl_normal.proofs.Ordered.{classes_once, in_order_unfixed, unfixed_itself}
use Rattle.pl_gen.specs.Turns.{GoesOn, WalksOnLocal}
use Rattle.pl_gen.specs.Walks.{step_reads, WalkView, AreLocal, Gives, IsTurn}
use Rattle.pl_gen.proofs.Stepping.{schema_here}

-- ---- a schema has no more classes than parameters

pub classes_few : (schema : Schema) → length (classes_in_order schema) ≤ length schema.parameters
classes_few schema = few_classes (classes_in_order schema) (length schema.parameters) (classes_once schema)
    (λ k d low. below (get_or (classes_in_order schema) k d)
    (Contains-get_or (classes_in_order schema) k d low))
  where
    below : (c : ℕ) → Contains (classes_in_order schema) c → c < length schema.parameters
    below c h = (unfixed_itself schema c (in_order_unfixed schema c h)).0

-- ---- and no size of one is above the largest

fold_above : (a : ℕ) (schemas : List Schema) → a ≤ fold (λ largest schema. max largest (schema_size schema)) a
    schemas
fold_above a [] = omega arith
fold_above a (x ∷ xs) = let rest = fold_above (max a (schema_size x)) xs in grind (arith, rest)

fold_has : (a number : ℕ) (schemas : List Schema) (schema : Schema) → slice_get schemas number ≡ Some schema
    → schema_size schema ≤ fold (λ largest schema. max largest (schema_size schema)) a schemas
fold_has a number [] schema found = absurd (nothing number found)
  where
    nothing : (n : ℕ) → slice_get [] n ≡ Some schema → ⊥
    nothing zero h = cc
    nothing (suc n) h = cc
fold_has a zero (x ∷ xs) schema found =
    let same : x ≡ schema = cc in
    let above : max a (schema_size x) ≤ fold (λ largest schema. max largest (schema_size schema))
    (max a (schema_size x)) xs = fold_above (max a (schema_size x)) xs in
    let own : schema_size x ≡ schema_size schema = ap schema_size same in
    grind (arith, above, own)
fold_has a (suc n) (x ∷ xs) schema found = fold_has (max a (schema_size x)) n xs schema found

pub size_below : (task : Task) (number : ℕ) (schema : Schema) → slice_get task.schemas number ≡ Some schema
    → schema_size schema ≤ largest_size task
size_below task number schema found = fold_has 0 number task.schemas schema found

-- ---- the step that is given

abbrev plain : StepRef → Instance
plain step = record { schema = step.schema; args = step.args.now }

goes_on : (old new : WalkView) (last : Option Instance) → MatchOption last ⊥ (λ step. Gives old new step)
    → IsTurn old last new
goes_on old new None h = absurd h
goes_on old new (Some step) h = h

pub step_given : (old new : WalkView) (result : Option StepRef) → GoesOn old true new
    → option_map plain result ≡ new.last → IsTurn old (option_map plain result) new
step_given old new result goes same = subst (λ r. IsTurn old r new) (sym same) (goes_on old new new.last goes)

-- what it takes where no filter is late
given_takes : (task : Task) (number before after : ℕ) (schema : Schema)
    → WalksOnLocal task before after number true → slice_get task.schemas number ≡ Some schema
    → after ≤ before + 2 * schema_size schema
given_takes task number before after schema local found =
    let taken : after ≤ before + 2 * length (classes_in_order schema) = local schema found in
    let few = classes_few schema in omega (arith, taken, few)

pub given_one : (old new : WalkView) (result : Option StepRef) (before after : ℕ)
    → IsTurn old (option_map plain result) new
    → (AreLocal old.prepared.task old.number new.number
    → WalksOnLocal old.prepared.task before after new.number true) →
    IfSome result (λ step. AreLocal old.prepared.task old.number step.schema → (schema : Schema)
    → slice_get old.prepared.task.schemas step.schema ≡ Some schema
    → after ≤ before + 2 * schema_size schema)
given_one old new None before after gives cost = tt
given_one old new (Some step) before after gives cost = λ local schema found.
    given_takes old.prepared.task new.number before after schema
    (cost (subst (λ n. AreLocal old.prepared.task old.number n) (sym gives.number) local))
    (ap (slice_get old.prepared.task.schemas) gives.number ∙ found)

pub given_each : (old new : WalkView) (before after : ℕ) → new.number < length old.prepared.task.schemas
    → (AreLocal old.prepared.task old.number new.number
    → WalksOnLocal old.prepared.task before after new.number true) →
    AreLocal old.prepared.task old.number (length old.prepared.task.schemas)
    → after ≤ before + 2 * largest_size old.prepared.task
given_each old new before after low cost local = of_one (schema_here old.prepared.task.schemas new.number low)
  where
    of_one : (s : Schema) × (slice_get old.prepared.task.schemas new.number ≡ Some s)
        → after ≤ before + 2 * largest_size old.prepared.task
    of_one (s, found) =
        let taken = given_takes old.prepared.task new.number before after s
        (cost (λ number schema from to at. local number schema from (omega (arith, to, low)) at)) found in
        let size = size_below old.prepared.task new.number s found in omega (arith, taken, size)

-- what a schema weighs is no more than what all weigh
pub number_few : (w : Schema → ℕ) (schemas : List Schema) (number : ℕ) (schema : Schema) →
    slice_get schemas number ≡ Some schema → w schema ≤ sum_by w schemas
number_few w [] number schema found = absurd (nothing number found)
  where
    nothing : (n : ℕ) → slice_get [] n ≡ Some schema → ⊥
    nothing zero h = cc
    nothing (suc n) h = cc
number_few w (x ∷ xs) zero schema found =
    let same : x ≡ schema = cc in
    let own = ap w same in
    let whole = sum_by-cons w x xs in omega (arith, own, whole)
number_few w (x ∷ xs) (suc n) schema found = let rest = number_few w xs n schema found in
    let whole = sum_by-cons w x xs in omega (arith, rest, whole)

pub given_few : (old new : WalkView) (before after : ℕ) → new.number < length old.prepared.task.schemas →
    (AreLocal old.prepared.task old.number new.number →
    WalksOnLocal old.prepared.task before after new.number true) →
    AreLocal old.prepared.task old.number (length old.prepared.task.schemas) →
    after ≤ before + step_reads old.prepared.task
given_few old new before after low cost local = of_one (schema_here old.prepared.task.schemas new.number low)
  where
    of_one : (s : Schema) × (slice_get old.prepared.task.schemas new.number ≡ Some s) →
        after ≤ before + step_reads old.prepared.task
    of_one (s, found) =
        let taken : after ≤ before + 2 * length (classes_in_order s) =
        cost (λ number schema from to at. local number schema from (omega (arith, to, low)) at) s found in
        let few = number_few (λ schema. 2 * length (classes_in_order schema)) old.prepared.task.schemas
        new.number s found in omega (arith, taken, few)

pub given_none : (P : Type 0) (old new : WalkView) (result : Option StepRef) → GoesOn old true new
    → option_map plain result ≡ new.last → IfNone result P
given_none P old new None goes same =
    absurd (subst (λ last. MatchOption last ⊥ (λ step. Gives old new step)) (sym same) goes)
given_none P old new (Some step) goes same = tt

pub given_first : (old new : WalkView) (result : Option StepRef) → IsTurn old (option_map plain result) new
    → IfSome result (λ step. slice_get old.left 0 ≡ Some (plain step))
given_first old new None gives = tt
given_first old new (Some step) gives = ap (λ xs. slice_get xs 0) gives.left
