-- The opening of a file: its first form, and in it the title.
use Rattle.std.proofs.Common.{◌≡◌, ℕ, ◌≤◌, ◌&&◌, Bool, true, List, [], ◌∷◌, ◌++◌, drop, length, get_or}
use Rattle.std.proofs.Common.{Option, None, Some, Result, Ok, Err, refl, sym, ap, ◌∙◌, subst, arith, codes}
use Rattle.std.proofs.Common.{bytes_eq}
use Rattle.std.specs.Prelude.{All}
use Rattle.std.specs.Borrow.{Bor}
use Rattle.std.proofs.lemmas.List.{length-drop, length-map}
use Rattle.std.proofs.lemmas.List.Elements.{All-nil, All-head, All-drop}
use Rattle.pl_text.specs.declared.form.Form.{Form}
use Rattle.pl_text.specs.Trees.{Tree, tree_of}
use Rattle.pl_check.specs.declared.role.FileRole.{FileRole}
use Rattle.pl_check.specs.declared.reading.Fault.{Fault}
use Rattle.pl_check.specs.declared.reading.ReadEnd.{ReadEnd}
use Rattle.pl_check.specs.declared.reading.ReadEnd.TheVariants as read_end
use Rattle.pl_check.specs.Elements.{trees, elements, head_word, is_list}
use Rattle.pl_check.specs.FaultLists.{first}
use Rattle.pl_check.specs.Files.{begins_with_list, define_own, define_inside, form_faults, further_faults}
use Rattle.pl_check.specs.Files.{file_faults}
use Rattle.pl_check.specs.Known.{Known, sections}
use Rattle.pl_check.specs.Opening.{OpensTitle, OpensForm, Opens}
use Rattle.pl_check.specs.Reading.{Refuses, HasFew}
use Rattle.pl_check.proofs.FaultListLemmas.{first_some}
use Rattle.pl_check.proofs.KnownLemmas.{few_elements, few_inside}

pub trees_drop : (forms : List Form) → trees (drop 1 forms) ≡ drop 1 (trees forms)
trees_drop [] = refl
trees_drop (form ∷ forms) = refl

drop_two : {A : Type 0} (xs : List A) → drop 1 (drop 1 xs) ≡ drop 2 xs
drop_two [] = refl
drop_two (x ∷ []) = refl
drop_two (x ∷ y ∷ xs) = refl

-- what follows faults does not change which of two comes first
first_cong : (xs ys zs : List Fault) → first xs ≡ first ys → first (xs ++ zs) ≡ first (ys ++ zs)
first_cong [] [] zs h = refl
first_cong [] (y ∷ ys) zs h = cc
first_cong (x ∷ xs) [] zs h = cc
first_cong (x ∷ xs) (y ∷ ys) zs h = h

form_first : (role : FileRole) (text : List ℕ) (known : Known) (tree : Tree) → is_list tree ≡ true →
    (bytes_eq (head_word text (elements tree)) (codes "define") && begins_with_list
    (drop 1 (elements tree))) ≡ true →
    first (form_faults role text known tree) ≡ first (define_inside role text known (drop 1 (elements tree)))
unfolding form_faults define_own
form_first role text known tree listed defined = rw (listed, defined) refl

opens_form : (role : FileRole) (text : List ℕ) (known : Known) (tree : Tree)
    (r : Result (Bor (List Form)) ReadEnd) →
    is_list tree ≡ true →
    (bytes_eq (head_word text (elements tree)) (codes "define") && begins_with_list
    (drop 1 (elements tree))) ≡ true →
    OpensTitle role text known (drop 1 (elements tree)) r → OpensForm role text known tree r
opens_form role text known tree (Ok found) listed defined h =
    (h.0, form_first role text known tree listed defined ∙ h.1)
opens_form role text known tree (Err (read_end.Fault fault)) listed defined h =
    form_first role text known tree listed defined ∙ h
opens_form role text known tree (Err (read_end.Memory error)) listed defined h = h

-- the same for what calls gave
pub form_opens : (role : FileRole) (text : List ℕ) (known : Known) (tree : Tree) (parts inner : List Tree)
    (r : Result (Bor (List Form)) ReadEnd) → is_list tree ≡ true → parts ≡ elements tree → inner ≡
    drop 1 parts →
    (bytes_eq (head_word text parts) (codes "define") && begins_with_list (drop 1 parts)) ≡ true →
    OpensTitle role text known inner r → OpensForm role text known tree r
form_opens role text known tree parts inner r listed parts_are inner_are defined h =
    opens_form role text known tree r listed
    (subst (λ ps. (bytes_eq (head_word text ps) (codes "define") && begins_with_list (drop 1 ps)) ≡ true)
    parts_are defined)
    (subst (λ ts. OpensTitle role text known ts r) (inner_are ∙ ap (drop 1) parts_are) h)

opens_first : (role : FileRole) (text : List ℕ) (known : Known) (file : Form) (rest : List Form)
    (r : Result (Bor (List Form)) ReadEnd) → OpensForm role text known (tree_of file) r →
    Opens role text known (trees (file ∷ rest)) r
unfolding sections
opens_first role text known file rest (Ok found) h = record {
  are = h.0 ∙ drop_two (elements (tree_of file));
  decide = first_cong (form_faults role text known (tree_of file)) _ (further_faults (trees rest)) h.1;
}
opens_first role text known file rest (Err (read_end.Fault fault)) h =
    first_some (form_faults role text known (tree_of file)) (further_faults (trees rest)) fault h
opens_first role text known file rest (Err (read_end.Memory error)) h = h

pub file_opens : (role : FileRole) (text : List ℕ) (known : Known) (forms : List Form) (file : Form)
    (r : Result (Bor (List Form)) ReadEnd) → 1 ≤ length forms → file ≡ get_or forms 0 file →
    OpensForm role text known (tree_of file) r → Opens role text known (trees forms) r
file_opens role text known [] file r some is h = absurd (omega arith)
file_opens role text known (x ∷ rest) file r some is h =
    opens_first role text known x rest r (subst (λ f. OpensForm role text known (tree_of f) r) is h)

-- where a file doesn't open, it is refused
pub opens_refuses : (role : FileRole) (text : List ℕ) (known : Known) (all : List Tree)
    (r : Result (Bor (List Form)) ReadEnd)
    (e : ReadEnd) → r ≡ Err e → Opens role text known all r →
    Refuses (file_faults role text known (length text) all) e
opens_refuses role text known all r (read_end.Fault x) is h = subst (Opens role text known all) is h
opens_refuses role text known all r (read_end.Memory e) is h = tt

-- the sections of a file with few elements in each list are few, and so are the elements of each
pub few_sections : (all : List Tree) → All HasFew all → All HasFew (sections all)
unfolding sections
few_sections [] few = All-nil HasFew
few_sections (file ∷ rest) few = All-drop HasFew 2 (elements file)
    (few_inside file (All-head HasFew file rest few))

short_sections : (all : List Tree) → All HasFew all → length (sections all) ≤ 16777216
unfolding sections
short_sections [] few = omega arith
short_sections (file ∷ rest) few =
    let short = few_elements file (All-head HasFew file rest few) in
    omega (arith, short, length-drop 2 (elements file))

pub few_found : (all : List Tree) (found : List Form) → All HasFew all → trees found ≡ sections all →
    All HasFew (trees found)
few_found all found few are = subst (All HasFew) (sym are) (few_sections all few)

pub short_found : (all : List Tree) (found : List Form) → All HasFew all → trees found ≡ sections all →
    length found ≤ 16777216
short_found all found few are =
    let short = short_sections all few in
    omega (arith, short, ap length are, length-map found tree_of)
