-- How the spans of forms lie in a file.
use Rattle.std.specs.Prelude.{ℕ, ◌+◌, ◌-◌, ◌<◌, ◌≤◌, List, [], ◌∷◌, ⊤}
use Rattle.pl_text.specs.declared.form.Form.{Form, Word, List'}
use Rattle.pl_text.specs.Forms.{span_of, elements, Every}

-- The spans of a form and of all inside it end by the place `high`.
abbrev pub IsWithin : ℕ → Form → Type 0
IsWithin high = Every (λ part. ((span_of part).from ≤ (span_of part).to) × ((span_of part).to ≤ high))

-- Forms lie one after another, from the place `low` to the place `high`; each has a byte.
abbrev pub ArePlaced : ℕ → ℕ → List Form → Type 0
ArePlaced low high [] = low ≤ high
ArePlaced low high (form ∷ rest) =
    (low ≤ (span_of form).from) × ((span_of form).from < (span_of form).to) ×
    ArePlaced (span_of form).to high rest

-- The elements of a list lie between its brackets.
abbrev pub HoldsElements : Form → Type 0
HoldsElements (Word span) = ⊤
HoldsElements (List' span shape row) = ArePlaced (span.from + 1) (span.to - 1)
    (elements (List' span shape row))

-- So it is of a form and of all inside it.
abbrev pub IsPlaced : Form → Type 0
IsPlaced = Every HoldsElements
