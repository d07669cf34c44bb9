-- The parts of a form that tests look at. `text` is the file in small letters.
use Rattle.std.specs.Prelude.{ℕ, Bool, true, false, List, [], ◌∷◌, map, length, ◌-◌, slice_range}
use Rattle.pl_text.specs.declared.form.Form.{Form}
use Rattle.pl_text.specs.Trees.{Tree, word, list, Trees, tree_of, span_of, inside, members}

-- the trees of forms
abbrev pub trees : List Form → List Tree
trees forms = map tree_of forms

-- where a form begins
abbrev pub place : Tree → ℕ
place tree = (span_of tree).from

unfoldable pub is_list : Tree → Bool
is_list (word span) = false
is_list (list span inner) = true

-- the word of a form; a list counts as the empty word, which no word is
unfoldable pub word_of : List ℕ → Tree → List ℕ
word_of text (word span) = slice_range text span.from span.to
word_of text (list span inner) = []

-- the elements of a list, and none of a word
abbrev pub elements : Tree → List Tree
elements tree = members (inside tree)

-- the word that a list of these elements begins with, and the empty word where there is none
unfoldable pub head_word : List ℕ → List Tree → List ℕ
head_word text [] = []
head_word text (tree ∷ rest) = word_of text tree
