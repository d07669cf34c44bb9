-- How the definitions that go over forms are read at a list of the program, `form.List span forms`, whose
-- elements are the items of a `Vec`.
use Rattle.std.proofs.Common.{◌≡◌, ◌↔◌, ℕ, ◌+◌, ◌-◌, ◌≤◌, List, ◌∷◌, map, All, Vec, Global, refl, sym, ap}
use Rattle.std.proofs.Common.{◌∙◌, subst}
use Rattle.std.proofs.lemmas.List.Elements.{All-nil, All-cons, All-head, All-tail}
use Rattle.pl_text.specs.declared.form.Span.{Span}
use Rattle.pl_text.specs.declared.form.Form as form
use Rattle.pl_text.specs.declared.form.Form.{Form, Word, List', Row_of-Form, end_of-Form, more_of-Form}
use Rattle.pl_text.specs.declared.form.Form.{items-the_row-Form, items_hidden-the_row-Form-0}
use Rattle.pl_text.specs.Forms.{span_of, elements, fold_form, fold_row, Every, EveryInRow}
use Rattle.pl_text.specs.Spans.{IsWithin, ArePlaced, HoldsElements, IsPlaced}

-- the elements of a list of the program
pub elements-List : (span : Span) (forms : Vec Form Global) → elements (form.List span forms) ≡ forms.items
elements-List span forms = items_hidden-the_row-Form-0 forms

module _ {A : Type 0} (step : Form → List A → A) where
  fold_row-is : (n : _) (row : Row_of-Form n) →
      fold_row step row ≡ map (fold_form step) (items-the_row-Form n row)
  fold_row-is n end_of-Form = refl
  fold_row-is n (more_of-Form form rest) = ap (λ rest. fold_form step form ∷ rest) (fold_row-is _ rest)

  -- a value over forms is its step, at the form and at what its elements come to
  pub fold_form-is : (form : Form) → fold_form step form ≡ step form (map (fold_form step) (elements form))
  fold_form-is (Word span) = refl
  fold_form-is (List' span shape row) = ap (step (List' span shape row)) (fold_row-is _ row)

  -- the same at a list of the program
  pub fold_form-List : (span : Span) (forms : Vec Form Global) →
      fold_form step (form.List span forms) ≡ step (form.List span forms) (map (fold_form step) forms.items)
  fold_form-List span forms =
      fold_form-is (form.List span forms) ∙
      ap (λ parts. step (form.List span forms) (map (fold_form step) parts)) (elements-List span forms)

module _ (P : Form → Type 0) where
  EveryInRow-to : (n : _) (row : Row_of-Form n) → EveryInRow P row → All (Every P) (items-the_row-Form n row)
  EveryInRow-to n end_of-Form h = All-nil (Every P)
  EveryInRow-to n (more_of-Form form rest) h = All-cons (Every P) form _ h.0 (EveryInRow-to _ rest h.1)

  EveryInRow-from : (n : _) (row : Row_of-Form n) → All (Every P) (items-the_row-Form n row) →
      EveryInRow P row
  EveryInRow-from n end_of-Form h = tt
  EveryInRow-from n (more_of-Form form rest) h =
      (All-head (Every P) form _ h, EveryInRow-from _ rest (All-tail (Every P) form _ h))

  -- P holds throughout a form where it holds of the form and throughout each of its elements
  pub Every-is : (form : Form) → Every P form ↔ (P form × All (Every P) (elements form))
  Every-is (Word span) = (λ h. (h, All-nil (Every P)), λ h. h.0)
  Every-is (List' span shape row) =
      (λ h. (h.0, EveryInRow-to _ row h.1), λ h. (h.0, EveryInRow-from _ row h.1))

  -- the same at a list of the program
  pub Every-List : (span : Span) (forms : Vec Form Global) →
      Every P (form.List span forms) ↔ (P (form.List span forms) × All (Every P) forms.items)
  Every-List span forms =
      let is = elements-List span forms in (
        λ h. (
          ((Every-is (form.List span forms)).0 h).0,
          subst (All (Every P)) is ((Every-is (form.List span forms)).0 h).1,
        ),
        λ h. (Every-is (form.List span forms)).1 (h.0, subst (All (Every P)) (sym is) h.1),
      )

-- the spans in a list of the program end by the place `high` where its own does and those in its elements do
pub IsWithin-List : (high : ℕ) (span : Span) (forms : Vec Form Global) →
    IsWithin high (form.List span forms) ↔
    ((span.from ≤ span.to) × (span.to ≤ high) × All (IsWithin high) forms.items)
IsWithin-List high span forms =
    let parts = Every-List
    (λ part. ((span_of part).from ≤ (span_of part).to) × ((span_of part).to ≤ high)) span forms in
    (λ h. ((parts.0 h).0.0, (parts.0 h).0.1, (parts.0 h).1), λ h. parts.1 ((h.0, h.1), h.2))

-- the elements of a list of the program lie between its brackets
pub IsPlaced-List : (span : Span) (forms : Vec Form Global) →
    IsPlaced (form.List span forms) ↔
    (ArePlaced (span.from + 1) (span.to - 1) forms.items × All IsPlaced forms.items)
IsPlaced-List span forms =
    let parts = Every-List HoldsElements span forms in
    let is = elements-List span forms in (
      λ h. (subst (ArePlaced (span.from + 1) (span.to - 1)) is (parts.0 h).0, (parts.0 h).1),
      λ h. parts.1 (subst (ArePlaced (span.from + 1) (span.to - 1)) (sym is) h.0, h.1),
    )

-- what holds throughout a form under P holds under any Q that follows from P
module _ (P Q : Form → Type 0) (follows : (form : Form) → P form → Q form) where
  mutual
    pub Every-map : (form : Form) → Every P form → Every Q form
    Every-map (Word span) h = follows (Word span) h
    Every-map (List' span shape row) h = (follows (List' span shape row) h.0, EveryInRow-map _ row h.1)

    EveryInRow-map : (n : _) (row : Row_of-Form n) → EveryInRow P row → EveryInRow Q row
    EveryInRow-map n end_of-Form h = tt
    EveryInRow-map n (more_of-Form form rest) h = (Every-map form h.0, EveryInRow-map _ rest h.1)
