-- Forms with the same trees are the same.
use Rattle.std.proofs.Common.{◌≡◌, ℕ, List, [], ◌∷◌}
use Rattle.pl_text.specs.declared.form.Form.{Form, Word, List', Row_of-Form, end_of-Form, more_of-Form}
use Rattle.pl_text.specs.Trees.{word, list, end, more, tree_of, trees_in, trees_of}
use Rattle.pl_text.specs.Forms.{AreFormsOf, AreSame, AreSameRows, AreAllSame}
use Rattle.pl_text.proofs.TreePlaceLaws.{AreTreesOf-one}

mutual
  same : (form other : Form) → tree_of form ≡ tree_of other → AreSame form other
  same (Word span) (Word other) e = let h : word span ≡ word other = e in cc
  same (Word span) (List' other shape row) e =
      absurd (let never : word span ≡ list other (trees_in row) = e in cc)
  same (List' span shape row) (Word other) e =
      absurd (let never : list span (trees_in row) ≡ word other = e in cc)
  same (List' span shape row) (List' other shape' row') e =
      let h : list span (trees_in row) ≡ list other (trees_in row') = e in (cc, same_rows row row' (cc))

  same_rows : {m n : _} (row : Row_of-Form m) (other : Row_of-Form n) → trees_in row ≡ trees_in other →
      AreSameRows row other
  same_rows end_of-Form end_of-Form e = tt
  same_rows end_of-Form (more_of-Form other others) e =
      absurd (let never : end ≡ more (tree_of other) (trees_in others) = e in cc)
  same_rows (more_of-Form form rest) end_of-Form e =
      absurd (let never : more (tree_of form) (trees_in rest) ≡ end = e in cc)
  same_rows (more_of-Form form rest) (more_of-Form other others) e =
      let h : more (tree_of form) (trees_in rest) ≡ more (tree_of other) (trees_in others) = e in
      (same form other (cc), same_rows rest others (cc))

same_all : (forms others : List Form) → trees_of forms ≡ trees_of others → AreAllSame forms others
same_all [] [] e = tt
same_all [] (other ∷ others) e = absurd (let never : end ≡ more (tree_of other) (trees_of others) = e in cc)
same_all (form ∷ forms) [] e = absurd (let never : more (tree_of form) (trees_of forms) ≡ end = e in cc)
same_all (form ∷ forms) (other ∷ others) e =
    let h : more (tree_of form) (trees_of forms) ≡ more (tree_of other) (trees_of others) = e in
    (same form other (cc), same_all forms others (cc))

-- two lists of forms of one file are the same
pub forms-only : (bytes : List ℕ) (forms others : List Form) → AreFormsOf bytes forms →
    AreFormsOf bytes others → AreAllSame forms others
forms-only bytes forms others are are' =
    same_all forms others (AreTreesOf-one bytes (trees_of forms) (trees_of others) are are')
