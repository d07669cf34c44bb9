-- Laws of these definitions.
use Rattle.std.specs.Prelude.{◌≡◌, ◌≤◌, ◌⊎◌, ◌↔◌, ℕ, List, length}
use Rattle.pl_text.specs.declared.fault.TextFault.{TextFault}
use Rattle.pl_text.specs.declared.form.Form.{Form}
use Rattle.pl_text.specs.Limits.{most_bytes}
use Rattle.pl_text.specs.Tokens.{Token, tokens, AreTokensOf}
use Rattle.pl_text.specs.Trees.{Trees, AreTreesOf, LieBetween}
use Rattle.pl_text.specs.Forms.{AreFormsOf, AreAllSame}
use Rattle.pl_text.specs.Words.{folded}
use Rattle.pl_text.specs.TextFaults.{IsGivenFault, HasForms, GivesFault}

-- The tokens of a file, which are defined byte by byte, are its brackets and its longest runs of word bytes
-- outside comments, by rising place, and no other list is.
abbrev pub TokensAreThose : Type 0
TokensAreThose = (bytes : List ℕ) (found : List Token) → AreTokensOf bytes found ↔ (found ≡ tokens bytes)

-- A file has one list of trees at most.
abbrev pub TreesAreOne : Type 0
TreesAreOne =
    (bytes : List ℕ) (trees others : Trees) → AreTreesOf bytes trees →
    AreTreesOf bytes others → trees ≡ others

-- The trees of a file lie in it one after another, and those of a list between its brackets: the places rise
-- in reading order, a list's before those of its trees.
abbrev pub TreesArePlaced : Type 0
TreesArePlaced = (bytes : List ℕ) (trees : Trees) → AreTreesOf bytes trees → LieBetween 0 (length bytes) trees

-- A file has one list of forms at most.
abbrev pub FormsAreOne : Type 0
FormsAreOne =
    (bytes : List ℕ) (forms others : List Form) → AreFormsOf bytes forms → AreFormsOf bytes others →
    AreAllSame forms others

-- A file gives one fault at most.
abbrev pub FaultIsOne : Type 0
FaultIsOne =
    (bytes : List ℕ) (fault other : TextFault) → IsGivenFault bytes fault → IsGivenFault bytes other →
    fault ≡ other

-- A file that may be read has forms or gives a fault, and never both.
abbrev pub FormsOrFault : Type 0
FormsOrFault =
    (bytes : List ℕ) → length bytes ≤ most_bytes →
    (HasForms bytes ⊎ GivesFault bytes) × (HasForms bytes → GivesFault bytes → ⊥)

-- A folded word is folded already.
abbrev pub FoldingKeepsFolded : Type 0
FoldingKeepsFolded = (word : List ℕ) → folded (folded word) ≡ folded word
