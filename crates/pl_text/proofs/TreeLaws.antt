-- How the tree of a form is read at a form of the program, and trees at what a slice of forms gives.
use mathlib.Core.Former.{Count}
use Rattle.std.proofs.Common.{◌≡◌, ◌+◌, ◌-◌, ◌<◌, ◌≤◌, ℕ, zero, suc, List, [], ◌∷◌, ◌++◌, map, drop, flat_map}
use Rattle.std.proofs.Common.{slice_get, get_or, length, take, option_map, add-one, drop-cons, arith, Vec}
use Rattle.std.proofs.Common.{Global, refl, sym, ap, ◌∙◌, append_assoc}
use Rattle.std.proofs.lemmas.List.{drop_all, take_all}
use Rattle.pl_text.specs.declared.form.Span.{Span}
use Rattle.pl_text.specs.declared.form.Form as form
use Rattle.pl_text.specs.declared.form.Form.{Form, Word, List', Row_of-Form, end_of-Form, more_of-Form}
use Rattle.pl_text.specs.declared.form.Form.{items-the_row-Form, items_hidden-the_row-Form-0}
use Rattle.pl_text.specs.Trees.{Tree, word, list, end, more, tree_of, trees_in, trees_of, inside, members}
use Rattle.pl_text.specs.Trees.{tree_at, past, each, written, written_all, IsInFile, AreInFile}

-- the tree of a word of the program
pub tree_of_word : (span : Span) → tree_of (form.Word span) ≡ word span
tree_of_word span = refl

trees_in-items : (n : _) (row : Row_of-Form n) → trees_in row ≡ trees_of (items-the_row-Form n row)
trees_in-items n end_of-Form = refl
trees_in-items n (more_of-Form form rest) = ap (more (tree_of form)) (trees_in-items _ rest)

abbrev row_of : Form → (n : Count) × Row_of-Form n
row_of (Word span) = (_, end_of-Form)
row_of (List' span shape row) = (_, row)

-- the tree of a list of the program
pub tree_of_list : (span : Span) (forms : Vec Form Global) →
    tree_of (form.List span forms) ≡ list span (trees_of forms.items)
tree_of_list span forms =
    let row = row_of (form.List span forms) in
    ap (list span) (trees_in-items row.0 row.1 ∙ ap trees_of (items_hidden-the_row-Form-0 forms))

-- the tree of a form that was matched as a word
pub tree_of_is_word : (f : Form) (span : Span) → f ≡ form.Word span → tree_of f ≡ word span
tree_of_is_word f span is = ap tree_of is

-- the tree of a form that was matched as a list
pub tree_of_is_list : (f : Form) (span : Span) (forms : Vec Form Global) → f ≡ form.List span forms →
    tree_of f ≡ list span (trees_of forms.items)
tree_of_is_list f span forms is = ap tree_of is ∙ tree_of_list span forms

-- the trees of forms, as a list
pub members-trees_of : (forms : List Form) → members (trees_of forms) ≡ map tree_of forms
members-trees_of [] = refl
members-trees_of (form ∷ forms) = ap (λ rest. tree_of form ∷ rest) (members-trees_of forms)

-- the trees of a list of the program, as a list
pub members_of_list : (span : Span) (forms : Vec Form Global) →
    members (inside (tree_of (form.List span forms))) ≡ map tree_of forms.items
members_of_list span forms = ap (λ t. members (inside t)) (tree_of_list span forms) ∙
    members-trees_of forms.items

-- the tree at a place is that of the form there
pub tree_at-trees_of : (place : ℕ) (forms : List Form) →
    tree_at place (trees_of forms) ≡ option_map tree_of (slice_get forms place)
tree_at-trees_of place [] = refl
tree_at-trees_of zero (form ∷ forms) = refl
tree_at-trees_of (suc place) (form ∷ forms) = tree_at-trees_of place forms

-- the trees after the first few are those of the forms after as many
pub past-trees_of : (count : ℕ) (forms : List Form) →
    past count (trees_of forms) ≡ trees_of (drop count forms)
past-trees_of zero forms = refl
past-trees_of (suc count) [] = refl
past-trees_of (suc count) (form ∷ forms) = past-trees_of count forms

-- what each tree gives is what the tree of each form gives
pub each-trees_of : {A : Type 0} (f : Tree → List A) (forms : List Form) →
    each f (trees_of forms) ≡ flat_map (λ form. f (tree_of form)) forms
each-trees_of f [] = refl
each-trees_of f (form ∷ forms) = ap (λ rest. f (tree_of form) ++ rest) (each-trees_of f forms)

-- the tokens of forms that follow others
pub written_all-append : (xs ys : List Form) →
    written_all (trees_of (xs ++ ys)) ≡ written_all (trees_of xs) ++ written_all (trees_of ys)
written_all-append [] ys = refl
written_all-append (x ∷ xs) ys =
    ap (λ rest. written (tree_of x) ++ rest) (written_all-append xs ys) ∙
    sym (append_assoc (written (tree_of x)) (written_all (trees_of xs)) (written_all (trees_of ys)))

-- Trees in a loop over the forms `forms`, at the one with the number `i`. `form` is what a read past the end
-- gives.

-- the trees from there on are its tree and those after it
pub trees_of-more : (forms : List Form) (i : ℕ) (form : Form) → i < length forms →
    trees_of (drop i forms) ≡ more (tree_of (get_or forms i form)) (trees_of (drop (i + 1) forms))
trees_of-more forms i form h =
    let here : drop i forms ≡ get_or forms i form ∷ drop (i + 1) forms =
    rw add-one (drop-cons forms i form h) in ap trees_of here

-- there are none past the last
pub trees_of-none : (forms : List Form) (i : ℕ) → length forms ≤ i → trees_of (drop i forms) ≡ end
trees_of-none forms i h = ap trees_of (drop_all i forms h)

-- spans of trees that are parts of a file are so in each of them
pub AreInFile-get : (size : ℕ) (forms : List Form) (i : ℕ) (form : Form) → i < length forms →
    AreInFile size (trees_of forms) →
    IsInFile size (tree_of (get_or forms i form))
AreInFile-get size [] i form h are = absurd (omega arith)
AreInFile-get size (x ∷ xs) zero form h are = are.0
AreInFile-get size (x ∷ xs) (suc i) form h are = AreInFile-get size xs i form (omega arith) are.1

-- and in those from a place on
pub AreInFile-drop : (size : ℕ) (forms : List Form) (i : ℕ) → AreInFile size (trees_of forms) →
    AreInFile size (trees_of (drop i forms))
AreInFile-drop size forms zero are = are
AreInFile-drop size [] (suc i) are = tt
AreInFile-drop size (x ∷ xs) (suc i) are = AreInFile-drop size xs i are.1

-- a first form and the rest, as a pattern of a slice gives them
pub trees_of-first : (forms : List Form) (form : Form) → 0 < length forms →
    trees_of forms ≡ more (tree_of (get_or forms 0 form)) (trees_of (take (length forms - 1) (drop 1 forms)))
trees_of-first [] form h = absurd (omega arith)
trees_of-first (x ∷ xs) form h =
    ap (λ rest. more (tree_of x) (trees_of rest)) (sym (take_all _ xs (omega arith)))
