-- The text of a list, written line by line.
use Rattle.std.proofs.Common.{◌≡◌, ◌≤◌, ◌+◌, ◌*◌, ◌-◌, ℕ, zero, suc, Bool, true, false, List, [], ◌∷◌, ◌++◌}
use Rattle.std.proofs.Common.{length, take, drop, Option, Some, None, refl, sym, ◌∙◌, ap, subst, codes}
use Rattle.std.proofs.Common.{append_assoc, arith, eqb-true, All}
use Rattle.std.specs.Io.KnownBytes.{Appends}
use Rattle.std.proofs.KnownBytes.{Appends-nil, Appends-trans}
use Rattle.pl_io.specs.Outside.{AppendsFront}
use Rattle.pl_io.specs.Blocks.{SendsOn}
use Rattle.pl_io.proofs.Parts.{AppendsFront-append}
use Rattle.pl_task.specs.declared.task.Task.{Task}
use Rattle.pl_task.specs.Instance.{Instance}
use Rattle.pl_normal.specs.Measures.{largest_size}
use Rattle.pl_gen.specs.Walks.{AreLocal, PreparedState}
use Rattle.pl_print.specs.Texts.{step_text}
use Rattle.pl_top.specs.Listing.{list_text, end_text, first_steps, step_lines}
use Rattle.std.proofs.lemmas.List.Elements.{All-rest}
use Rattle.pl_task.specs.States.{IsStep}
use Rattle.pl_top.specs.Putting.{is_spent, one_less, IsNextPut, IsNextCut}

-- of a text, a front was written, and this rest is left
pub record IsSoFar (text rest : List ℕ) (before now : Option (List ℕ)) : Type 0 where
  pub done : List ℕ
  pub written : Appends before now done
  pub whole : done ++ rest ≡ text

-- all filters of all schemas are local
abbrev pub IsLocal : PreparedState → Type 0
IsLocal prepared = AreLocal prepared.task 0 (length prepared.task.schemas)

-- what was taken so far, with the shares of the steps that are to be printed and of one more, is within a
-- bound
abbrev pub WithinPage : PreparedState → ℕ → ℕ → ℕ → Type 0
WithinPage prepared now start printed =
    IsLocal prepared → now + 2 * largest_size prepared.task * (printed + 1) ≤ start

-- one call of the walk took no more than its share
abbrev pub WithinEach : PreparedState → ℕ → ℕ → Type 0
WithinEach prepared past now = IsLocal prepared → now ≤ past + 2 * largest_size prepared.task

-- nothing was written
pub nothing_yet : (text : List ℕ) (before : Option (List ℕ)) → IsSoFar text text before before
nothing_yet text before = record { done = []; written = Appends-nil before; whole = refl }

-- a further piece was written
pub onward : (text rest piece next : List ℕ) (before mid now : Option (List ℕ)) → IsSoFar text rest before mid
    → rest ≡ piece ++ next → Appends mid now piece → IsSoFar text next before now
onward text rest piece next before mid now h parts more = record {
  done = h.done ++ piece;
  written = Appends-trans before mid now h.done piece h.written more;
  whole = append_assoc h.done piece next ∙ ap (λ (l : List ℕ). h.done ++ l) (sym parts) ∙ h.whole;
}

-- the rest was written
pub finished : (text rest : List ℕ) (before mid now : Option (List ℕ)) → IsSoFar text rest before mid
    → Appends mid now rest → Appends before now text
finished text rest before mid now h more =
    subst (Appends before now) h.whole (Appends-trans before mid now h.done rest h.written more)

-- a front of a further piece was written
pub cut_within : (text rest piece next : List ℕ) (before mid now : Option (List ℕ))
    → IsSoFar text rest before mid
    → rest ≡ piece ++ next → AppendsFront mid now piece → AppendsFront before now text
cut_within text rest piece next before mid now h parts front =
    subst (AppendsFront before now) (ap (λ (l : List ℕ). h.done ++ l) (sym parts) ∙ h.whole)
    (AppendsFront-append before mid now h.done piece next h.written front)

-- a front of the rest was written
pub cut_off_rest : (text rest : List ℕ) (before mid now : Option (List ℕ)) → IsSoFar text rest before mid
    → AppendsFront mid now rest → AppendsFront before now text
cut_off_rest text rest before mid now h front =
    cut_within text rest rest [] before mid now h (sym (nil_right rest)) front
  where
    nil_right : (l : List ℕ) → l ++ [] ≡ l
    nil_right [] = refl
    nil_right (x ∷ xs) = ap (λ (l : List ℕ). x ∷ l) (nil_right xs)

-- no step is left
pub none_left : (task : Task) (count : Option ℕ) → list_text task count [] ≡ codes "; end\n"
none_left task None = refl
none_left task (Some zero) = refl
none_left task (Some (suc count)) = refl

-- no line may follow but the last
pub spent_text : (task : Task) (count : Option ℕ) (steps : List Instance) → is_spent count ≡ true
    → list_text task count steps ≡ end_text steps
spent_text task None steps spent = absurd (cc spent)
spent_text task (Some zero) steps spent = refl
spent_text task (Some (suc count)) steps spent = absurd (omega (arith, eqb-true (suc count) 0 spent))

-- the line of a step, and what follows it
pub next_text : (task : Task) (count : Option ℕ) (step : Instance) (steps : List Instance)
    → is_spent count ≡ false
    → list_text task count (step ∷ steps) ≡ step_text task step ++ list_text task (one_less count) steps
next_text task None step steps more = append_assoc (step_text task step) (step_lines task steps) (end_text [])
next_text task (Some zero) step steps more = absurd (cc more)
next_text task (Some (suc count)) step steps more =
    append_assoc (step_text task step) (step_lines task (take count steps)) (end_text (drop count steps))
    ∙ ap (λ (n : ℕ). step_text task step ++ list_text task (Some n) steps) less
  where
    less : count ≡ suc count - 1
    less = omega arith

-- a piece was taken: what is held back comes before the rest
pub moved : (text held piece kept more : List ℕ) (before mid now : Option (List ℕ))
    → IsSoFar text (held ++ (piece ++ more)) before mid
    → SendsOn mid now held piece kept → IsSoFar text (kept ++ more) before now
moved text held piece kept more before mid now h sends =
    onward text (held ++ (piece ++ more)) sends.sent (kept ++ more) before mid now h
    (sym (append_assoc held piece more) ∙ ap (λ (l : List ℕ). l ++ more) sends.rest
    ∙ append_assoc sends.sent kept more) sends.put

-- a front of what was held back and a piece was written
pub cut_piece : (text held piece more : List ℕ) (before mid now : Option (List ℕ))
    → IsSoFar text (held ++ (piece ++ more)) before mid
    → AppendsFront mid now (held ++ piece) → AppendsFront before now text
cut_piece text held piece more before mid now h front =
    cut_within text (held ++ (piece ++ more)) (held ++ piece) more before mid now h
    (sym (append_assoc held piece more)) front

-- one of the steps that are printed is the next one
pub one_printed : (count : Option ℕ) (step : Instance) (left left' : List Instance) → false ≡ is_spent count
    → left ≡ step ∷ left'
    → length (first_steps count left) ≡ suc (length (first_steps (one_less count) left'))
one_printed None step left left' more is = ap length is
one_printed (Some zero) step left left' more is = absurd (cc more)
one_printed (Some (suc count)) step left left' more is =
    ap (λ (l : List Instance). length (take (suc count) l)) is
    ∙ ap (λ (n : ℕ). suc (length (take n left'))) less
  where
    less : count ≡ suc count - 1
    less = omega arith

-- one more line costs no more than its share of the bound
pub shared : (each printed less start past now : ℕ) → printed ≡ suc less
    → past + each * (printed + 1) ≤ start → now ≤ past + each → now + each * (less + 1) ≤ start
shared each printed less start past now is so_far turn =
    let share : each * (printed + 1) ≡ each * (less + 1) + each = rw is (grind arith) in
    omega (arith, share, so_far, turn)

-- and neither does the last line
pub last_shared : (each printed start past now : ℕ) → past + each * (printed + 1) ≤ start → now ≤ past + each
    → now ≤ start
last_shared each printed start past now so_far turn =
    let share : each * (printed + 1) ≡ each * printed + each = grind arith in
    omega (arith, share, so_far, turn)

-- a call of a walk that is at another place of the same state is within the bound of one call
same_each : (old over : PreparedState) (past now : ℕ) → over ≡ old → WithinEach over past now
    → WithinEach old past now
same_each old over past now same turn = subst (λ (p : PreparedState). WithinEach p past now) same turn

-- the last call of a walk: with it what was taken is within the bound of all
pub last_page : (old over : PreparedState) (printed start past now : ℕ) → over ≡ old
    → WithinPage old past start printed → WithinEach over past now → IsLocal old → now ≤ start
last_page old over printed start past now same so_far turn local =
    last_shared (2 * largest_size old.task) printed start past now (so_far local)
    (same_each old over past now same turn local)

-- a call that gave a step: with it what was taken and the shares of the steps that follow are within the
-- bound
pub next_page : (old over : PreparedState) (count next : Option ℕ) (step : Instance)
    (left left' : List Instance) (start past now : ℕ) → over ≡ old → next ≡ one_less count
    → false ≡ is_spent count → left ≡ step ∷ left'
    → WithinPage old past start (length (first_steps count left)) → WithinEach over past now
    → WithinPage old now start (length (first_steps next left'))
next_page old over count next step left left' start past now same less more is so_far turn local =
    subst (λ (n : Option ℕ). now + 2 * largest_size old.task * (length (first_steps n left') + 1) ≤ start)
    (sym less)
    (shared (2 * largest_size old.task) (length (first_steps count left))
    (length (first_steps (one_less count) left')) start past now (one_printed count step left left' more is)
    (so_far local) (same_each old over past now same turn local))

module _ (task : Task) (count : Option ℕ) (left left' : List Instance) (text held kept : List ℕ)
    (before mid now : Option (List ℕ))
    (so_far : IsSoFar text (held ++ list_text task count left) before mid) where
  -- a front of the next line was written
  pub step_cut : false ≡ is_spent count → IsNextCut task left mid now held → AppendsFront before now text
  step_cut more h =
      cut_piece text held (step_text task h.step) (list_text task (one_less count) h.rest) before mid now
      (subst (λ (l : List ℕ). IsSoFar text (held ++ l) before mid)
      (ap (list_text task count) h.left ∙ next_text task count h.step h.rest (sym more)) so_far)
      h.front

  -- the next line was taken
  pub step_put : (next : Option ℕ) (given : Bool) → next ≡ one_less count → given ≡ true
      → false ≡ is_spent count
      → IsNextPut task left left' mid now held kept given
      → IsSoFar text (kept ++ list_text task next left') before now
  step_put next given less is more put =
      let h = subst (IsNextPut task left left' mid now held kept) is put in
      subst (λ (n : Option ℕ). IsSoFar text (kept ++ list_text task n left') before now) (sym less)
      (moved text held (step_text task h.step) kept (list_text task (one_less count) left') before mid now
      (subst (λ (l : List ℕ). IsSoFar text (held ++ l) before mid)
      (ap (list_text task count) h.left ∙ next_text task count h.step left' (sym more)) so_far)
      h.taken)

  -- the steps that are left are steps of the task
  pub steps_left : (given : Bool) → given ≡ true → IsNextPut task left left' mid now held kept given
      → All (IsStep task) left → All (IsStep task) left'
  steps_left given is put all =
      let h = subst (IsNextPut task left left' mid now held kept) is put in
      All-rest (IsStep task) h.step left' left h.left all

  -- the shares of the steps that follow are within the bound
  pub page_put : (old over : PreparedState) (next : Option ℕ) (given : Bool) (start past later : ℕ)
      → over ≡ old → next ≡ one_less count → given ≡ true → false ≡ is_spent count
      → IsNextPut task left left' mid now held kept given
      → WithinPage old past start (length (first_steps count left)) → WithinEach over past later
      → WithinPage old later start (length (first_steps next left'))
  page_put old over next given start past later same less is more put within turn =
      let h = subst (IsNextPut task left left' mid now held kept) is put in
      next_page old over count next h.step left left' start past later same less more h.left within turn

  -- no step was left: the last line is
  pub last_left : (given : Bool) → given ≡ false → IsNextPut task left left' mid now held kept given
      → IsSoFar text (kept ++ codes "; end\n") before now
  last_left given is put =
      let h = subst (IsNextPut task left left' mid now held kept) is put in
      subst (λ (l : List ℕ). IsSoFar text (kept ++ l) before now)
      (ap (list_text task count) h.none ∙ none_left task count)
      (moved text held [] kept (list_text task count left) before mid now so_far h.taken)

  -- a front of the last line was written
  pub last_cut : true ≡ is_spent count → AppendsFront mid now (held ++ end_text left)
      → AppendsFront before now text
  last_cut spent front =
      cut_off_rest text (held ++ list_text task count left) before mid now so_far
      (subst (λ (l : List ℕ). AppendsFront mid now (held ++ l)) (sym (spent_text task count left (sym spent)))
      front)

  -- all was written
  pub last_put : true ≡ is_spent count → Appends mid now (held ++ end_text left) → Appends before now text
  last_put spent more =
      finished text (held ++ list_text task count left) before mid now so_far
      (subst (λ (l : List ℕ). Appends mid now (held ++ l)) (sym (spent_text task count left (sym spent)))
      more)

-- nothing was written, and nothing is held back
pub begun : (text held : List ℕ) (before : Option (List ℕ)) → held ≡ []
    → IsSoFar text (held ++ text) before before
begun text held before none = subst (λ (l : List ℕ). IsSoFar text (l ++ text) before before) (sym none)
    (nothing_yet text before)
