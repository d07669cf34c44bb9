-- Forms whose trees lie one after another do so themselves, each list's elements between its brackets.
use Rattle.std.proofs.Common.{ℕ, ◌+◌, ◌-◌, ◌≤◌, List, [], ◌∷◌, length, All}
use Rattle.std.proofs.lemmas.List.Elements.{All-nil, All-cons}
use Rattle.pl_text.specs.declared.form.Form.{Form, Word, List', Row_of-Form, end_of-Form, more_of-Form}
use Rattle.pl_text.specs.declared.form.Form.{items-the_row-Form}
use Rattle.pl_text.specs.Trees.{tree_of, trees_in, trees_of, LiesBetween, LieBetween, IsInFile, AreInFile}
use Rattle.pl_text.specs.Forms.{span_of, EveryInRow, AreFormsOf}
use Rattle.pl_text.specs.Spans.{IsWithin, ArePlaced, HoldsElements, IsPlaced}
use Rattle.pl_text.proofs.TreePlaceLaws.{AreTreesOf-lie, AreTreesOf-in_file}

abbrev IsSpanWithin : ℕ → Form → Type 0
IsSpanWithin high part = ((span_of part).from ≤ (span_of part).to) × ((span_of part).to ≤ high)

placed_row : (low high : ℕ) (n : _) (row : Row_of-Form n) → LieBetween low high (trees_in row) →
    ArePlaced low high (items-the_row-Form n row)
placed_row low high n end_of-Form h = h
placed_row low high n (more_of-Form (Word span) rest) h = (h.0.0, h.0.1, placed_row span.to high _ rest h.1)
placed_row low high n (more_of-Form (List' span shape row) rest) h =
    (h.0.0, h.0.1, placed_row span.to high _ rest h.1)

mutual
  placed_inside : (low high : ℕ) (form : Form) → LiesBetween low high (tree_of form) → IsPlaced form
  placed_inside low high (Word span) h = tt
  placed_inside low high (List' span shape row) h = (
    placed_row (span.from + 1) (span.to - 1) _ row h.3,
    placed_inside_row (span.from + 1) (span.to - 1) _ row h.3,
  )

  placed_inside_row : (low high : ℕ) (n : _) (row : Row_of-Form n) → LieBetween low high (trees_in row) →
      EveryInRow HoldsElements row
  placed_inside_row low high n end_of-Form h = tt
  placed_inside_row low high n (more_of-Form form rest) h =
      (placed_inside low high form h.0, placed_inside_row _ high _ rest h.1)

mutual
  within : (size : ℕ) (form : Form) → IsInFile size (tree_of form) → IsWithin size form
  within size (Word span) h = h
  within size (List' span shape row) h = ((h.0, h.1), within_row size _ row h.2)

  within_row : (size : ℕ) (n : _) (row : Row_of-Form n) → AreInFile size (trees_in row) →
      EveryInRow (IsSpanWithin size) row
  within_row size n end_of-Form h = tt
  within_row size n (more_of-Form form rest) h = (within size form h.0, within_row size _ rest h.1)

placed_all : (low high : ℕ) (forms : List Form) → LieBetween low high (trees_of forms) →
    ArePlaced low high forms
placed_all low high [] h = h
placed_all low high (Word span ∷ rest) h = (h.0.0, h.0.1, placed_all span.to high rest h.1)
placed_all low high (List' span shape row ∷ rest) h = (h.0.0, h.0.1, placed_all span.to high rest h.1)

placed_inside_all : (low high : ℕ) (forms : List Form) → LieBetween low high (trees_of forms) →
    All IsPlaced forms
placed_inside_all low high [] h = All-nil IsPlaced
placed_inside_all low high (form ∷ rest) h =
    All-cons IsPlaced form rest (placed_inside low high form h.0) (placed_inside_all _ high rest h.1)

within_all : (size : ℕ) (forms : List Form) → AreInFile size (trees_of forms) → All (IsWithin size) forms
within_all size [] h = All-nil (IsWithin size)
within_all size (form ∷ rest) h =
    All-cons (IsWithin size) form rest (within size form h.0) (within_all size rest h.1)

-- the forms of a file
module _ (bytes : List ℕ) (forms : List Form) (are : AreFormsOf bytes forms) where
  pub forms_in_order : ArePlaced 0 (length bytes) forms
  forms_in_order = placed_all 0 (length bytes) forms (AreTreesOf-lie bytes (trees_of forms) are)

  pub forms_placed : All IsPlaced forms
  forms_placed = placed_inside_all 0 (length bytes) forms (AreTreesOf-lie bytes (trees_of forms) are)

  pub forms_within : All (IsWithin (length bytes)) forms
  forms_within = within_all (length bytes) forms (AreTreesOf-in_file bytes (trees_of forms) are)
