-- The forms of a file: words and lists, as its tokens nest.
use Rattle.std.specs.Prelude.{◌≡◌, ℕ, List, [], ◌∷◌, ⊤}
use Rattle.pl_text.specs.declared.form.Span.{Span}
use Rattle.pl_text.specs.declared.form.Form.{Form, Word, List', Row_of-Form, end_of-Form, more_of-Form}
use Rattle.pl_text.specs.declared.form.Form.{items-the_row-Form}
use Rattle.pl_text.specs.Tokens.{Token}
use Rattle.pl_text.specs.Trees.{trees_of, written_all, AreTreesOf}

-- from the first byte of a form to one past its last
abbrev pub span_of : Form → Span
span_of (Word span) = span
span_of (List' span shape row) = span

-- the elements of a list, and none of a word
abbrev pub elements : Form → List Form
elements (Word span) = []
elements (List' span shape row) = items-the_row-Form _ row

-- What a form comes to, where `step` says it of a form and of what its elements come to.
module _ {A : Type 0} (step : Form → List A → A) where
  abbrev mutual
    pub fold_form : Form → A
    fold_form (Word span) = step (Word span) []
    fold_form (List' span shape row) = step (List' span shape row) (fold_row row)

    pub fold_row : {n : _} → Row_of-Form n → List A
    fold_row end_of-Form = []
    fold_row (more_of-Form form rest) = fold_form form ∷ fold_row rest

-- P holds of a form, of its elements, of their elements, and so on.
module _ (P : Form → Type 0) where
  abbrev mutual
    pub Every : Form → Type 0
    Every (Word span) = P (Word span)
    Every (List' span shape row) = P (List' span shape row) × EveryInRow row

    pub EveryInRow : {n : _} → Row_of-Form n → Type 0
    EveryInRow end_of-Form = ⊤
    EveryInRow (more_of-Form form rest) = Every form × EveryInRow rest

-- the tokens that forms are written with which follow one another
abbrev pub flatten_all : List Form → List Token
flatten_all forms = written_all (trees_of forms)

-- The forms of a file are those that are written with all its tokens, in their order.
abbrev pub AreFormsOf : List ℕ → List Form → Type 0
AreFormsOf bytes forms = AreTreesOf bytes (trees_of forms)

abbrev mutual
  -- The two forms are the same but for how their memory lies: one word, or two lists with one span and with
  -- elements that are the same one by one.
  pub AreSame : Form → Form → Type 0
  AreSame (Word span) (Word other) = span ≡ other
  AreSame (Word span) (List' other shape row) = ⊥
  AreSame (List' span shape row) (Word other) = ⊥
  AreSame (List' span shape row) (List' other shape' row') = (span ≡ other) × AreSameRows row row'

  pub AreSameRows : {m n : _} → Row_of-Form m → Row_of-Form n → Type 0
  AreSameRows end_of-Form end_of-Form = ⊤
  AreSameRows end_of-Form (more_of-Form other rest') = ⊥
  AreSameRows (more_of-Form form rest) end_of-Form = ⊥
  AreSameRows (more_of-Form form rest) (more_of-Form other rest') = AreSame form other ×
      AreSameRows rest rest'

-- So it is of two lists of forms, one by one.
abbrev pub AreAllSame : List Form → List Form → Type 0
AreAllSame [] [] = ⊤
AreAllSame [] (other ∷ others) = ⊥
AreAllSame (form ∷ forms) [] = ⊥
AreAllSame (form ∷ forms) (other ∷ others) = AreSame form other × AreAllSame forms others
