-- The forms of a file as plain data: trees of words and lists with their spans. A form of the program is seen
-- as its tree, so that two forms with one tree are the same for all that is said of them, however their
-- memory lies.
use Rattle.std.specs.Prelude.{◌≡◌, ℕ, ◌+◌, ◌-◌, ◌<◌, ◌≤◌, zero, suc, List, [], ◌∷◌, ◌++◌, Option, None, Some}
use Rattle.std.specs.Prelude.{⊤}
use Rattle.pl_text.specs.declared.form.Span.{Span}
use Rattle.pl_text.specs.declared.form.Form.{Form, Word, List', Row_of-Form, end_of-Form, more_of-Form}
use Rattle.pl_text.specs.Tokens as token
use Rattle.pl_text.specs.Tokens.{Token, tokens}

mutual
  -- a word, or a list with its trees
  pub data Tree : Type 0 where
    word : Span → Tree
    list : Span → Trees → Tree

  -- trees that follow one another
  pub data Trees : Type 0 where
    end : Trees
    more : Tree → Trees → Trees

abbrev mutual
  -- the tree of a form
  pub tree_of : Form → Tree
  tree_of (Word span) = word span
  tree_of (List' span shape row) = list span (trees_in row)

  -- the trees of the elements of a list, as they lie in memory
  pub trees_in : {n : _} → Row_of-Form n → Trees
  trees_in end_of-Form = end
  trees_in (more_of-Form form rest) = more (tree_of form) (trees_in rest)

-- the trees of forms that follow one another
abbrev pub trees_of : List Form → Trees
trees_of [] = end
trees_of (form ∷ forms) = more (tree_of form) (trees_of forms)

-- from the first byte of a tree to one past its last
abbrev pub span_of : Tree → Span
span_of (word span) = span
span_of (list span trees) = span

-- the trees of a list, and none of a word
abbrev pub inside : Tree → Trees
inside (word span) = end
inside (list span trees) = trees

-- trees as a list
abbrev pub members : Trees → List Tree
members end = []
members (more tree rest) = tree ∷ members rest

-- the tree that stands at a place among them, the first at 0
abbrev pub tree_at : ℕ → Trees → Option Tree
tree_at place end = None
tree_at zero (more tree rest) = Some tree
tree_at (suc place) (more tree rest) = tree_at place rest

-- the trees after the first few
abbrev pub past : ℕ → Trees → Trees
past zero trees = trees
past (suc count) end = end
past (suc count) (more tree rest) = past count rest

-- what each tree gives, in their order
module _ {A : Type 0} (f : Tree → List A) where
  abbrev pub each : Trees → List A
  each end = []
  each (more tree rest) = f tree ++ each rest

-- what each tree gives, in their order, where this depends on what stands before it, the state `s`, and on
-- the trees after it; `next` is the state after a tree
module _ {A S : Type 0} (f : S → Trees → Tree → List A) (next : Tree → S → S) where
  abbrev pub along : S → Trees → List A
  along s end = []
  along s (more tree rest) = f s rest tree ++ along (next tree s) rest

-- the state after all trees
module _ {S : Type 0} (next : Tree → S → S) where
  abbrev pub after_all : S → Trees → S
  after_all s end = s
  after_all s (more tree rest) = after_all (next tree s) rest

-- P holds of each tree
module _ (P : Tree → Type 0) where
  abbrev pub AreEach : Trees → Type 0
  AreEach end = ⊤
  AreEach (more tree rest) = P tree × AreEach rest

abbrev mutual
  -- the tokens that a tree is written with: a word, or an open bracket, those of its trees and a close
  -- bracket
  pub written : Tree → List Token
  written (word span) = token.Word span ∷ []
  written (list span trees) = token.Open span.from ∷ written_all trees ++ token.Close (span.to - 1) ∷ []

  -- the tokens of trees that follow one another
  pub written_all : Trees → List Token
  written_all end = []
  written_all (more tree rest) = written tree ++ written_all rest

-- The trees of a file are those that are written with all its tokens, in their order.
abbrev pub AreTreesOf : List ℕ → Trees → Type 0
AreTreesOf bytes trees = written_all trees ≡ tokens bytes

abbrev mutual
  -- The tree has a byte and lies from the place `low` to the place `high`; the trees of a list lie between
  -- its brackets.
  pub LiesBetween : ℕ → ℕ → Tree → Type 0
  LiesBetween low high (word span) = (low ≤ span.from) × (span.from < span.to) × (span.to ≤ high)
  LiesBetween low high (list span trees) =
      (low ≤ span.from) × (span.from < span.to) × (span.to ≤ high) ×
      LieBetween (span.from + 1) (span.to - 1) trees

  -- The trees lie one after another, from the place `low` to the place `high`.
  pub LieBetween : ℕ → ℕ → Trees → Type 0
  LieBetween low high end = low ≤ high
  LieBetween low high (more tree rest) = LiesBetween low high tree × LieBetween (span_of tree).to high rest

abbrev mutual
  -- The spans of a tree and of all inside it are parts of a file of this many bytes.
  pub IsInFile : ℕ → Tree → Type 0
  IsInFile size (word span) = (span.from ≤ span.to) × (span.to ≤ size)
  IsInFile size (list span trees) = (span.from ≤ span.to) × (span.to ≤ size) × AreInFile size trees

  pub AreInFile : ℕ → Trees → Type 0
  AreInFile size end = ⊤
  AreInFile size (more tree rest) = IsInFile size tree × AreInFile size rest
