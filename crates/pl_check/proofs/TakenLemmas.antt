-- Forms that are taken one by one, and given up: what is left decides.
use Rattle.std.proofs.Common.{◌≡◌, ℕ, ◌<◌, true, false, cond, List, [], ◌∷◌, ◌++◌, map, drop, length, get_or}
use Rattle.std.proofs.Common.{Option, None, Some, Result, Ok, Err, refl, sym, ap, subst, ◌∙◌, arith}
use Rattle.std.proofs.Common.{append_assoc, append-nil, bytes_eq, Bor}
use Rattle.std.specs.List.{flat_map}
use Rattle.pl_names.specs.Names.{texts}
use Rattle.pl_text.specs.declared.form.Form.{Form}
use Rattle.pl_text.specs.Trees.{Tree, tree_of}
use Rattle.pl_task.specs.declared.data.Atom.{Atom}
use Rattle.pl_task.specs.declared.data.Literal.{Literal}
use Rattle.pl_check.specs.declared.role.FileRole.TheVariants.{Problem}
use Rattle.pl_check.specs.declared.reading.Fault.{Fault}
use Rattle.pl_check.specs.declared.reading.ReadEnd.{ReadEnd}
use Rattle.pl_check.specs.declared.reading.ReadEnd.TheVariants as read_end
use Rattle.pl_check.specs.Elements.{trees, elements, head_word}
use Rattle.pl_check.specs.FaultLists.{first, or_inside}
use Rattle.pl_check.specs.Files.{file_faults, further_faults}
use Rattle.pl_check.specs.Known.{Known, sections, all_after}
use Rattle.pl_check.specs.Literals.{literals_of, ground_atom}
use Rattle.pl_check.specs.Opening.{AreLeft}
use Rattle.pl_check.specs.Reading.{Refuses}
use Rattle.pl_check.specs.Sections.{section_own, is_action, problem_inside, problem_scope, sections_faults}
use Rattle.pl_check.specs.Terms.{Scope}
use Rattle.pl_check.proofs.FaultListLemmas.{first_some, first_none}
use Rattle.pl_check.proofs.SectionLemmas.{section_refused, section_passed, init_more, goal_more}

-- ---- single forms

-- a refusal of the form that was taken is one of all
pub taken_refused : (f : Tree → List Fault) (all : List Fault) (old left : List Form)
    (form : Form) (e : ReadEnd) →
    old ≡ form ∷ left → first (flat_map f (trees old)) ≡ first all →
    Refuses (f (tree_of form)) e → Refuses all e
taken_refused f all old left form (read_end.Fault x) is decides found =
    sym decides ∙ ap (λ l. first (flat_map f (trees l))) is ∙
    first_some (f (tree_of form)) (flat_map f (trees left)) x found
taken_refused f all old left form (read_end.Memory e) is decides found = tt

-- where it has no fault, what is left decides
pub taken_passed : (f : Tree → List Fault) (all : List Fault) (old left : List Form) (form : Form) →
    old ≡ form ∷ left → first (flat_map f (trees old)) ≡ first all →
    first (f (tree_of form)) ≡ None → first (flat_map f (trees left)) ≡ first all
taken_passed f all old left form is decides none =
    sym (first_none (f (tree_of form)) (flat_map f (trees left)) none) ∙
    ap (λ l. first (flat_map f (trees l))) (sym is) ∙ decides

-- its value goes behind those so far
pub taken_value : {A : Type 0} (f : Tree → A) (old left : List Form) (form : Form) (value : A)
    (so_far more whole : List A) →
    old ≡ form ∷ left → value ≡ f (tree_of form) → more ≡ so_far ++ value ∷ [] →
    so_far ++ map f (trees old) ≡ whole → more ++ map f (trees left) ≡ whole
taken_value f old left form value so_far more whole is made step held =
    ap (λ l. l ++ map f (trees left)) (step ∙ ap (λ v. so_far ++ v ∷ []) made) ∙
    append_assoc so_far (f (tree_of form) ∷ []) (map f (trees left)) ∙
    ap (λ l. so_far ++ map f (trees l)) (sym is) ∙ held

-- none is left
pub none_left : (f : List Tree → List Fault) (all : List Fault) (left : List Form) →
    left ≡ [] → first (f []) ≡ None →
    first (f (trees left)) ≡ first all → first all ≡ None
none_left f all left none clean decides = sym decides ∙ ap (λ l. first (f (trees l))) none ∙ clean

pub values_left : {A : Type 0} (f : List Tree → List A) (left : List Form) (so_far whole : List A) →
    left ≡ [] → f [] ≡ [] →
    so_far ++ f (trees left) ≡ whole → so_far ≡ whole
values_left f left so_far whole none nothing held =
    sym (append-nil so_far) ∙ ap (λ l. so_far ++ l) (sym nothing) ∙
    ap (λ l. so_far ++ f (trees l)) (sym none) ∙ held

-- ---- sections

abbrev section_faults : List ℕ → Scope → List (List ℕ) → Tree → List Fault
section_faults text scope keys section =
    or_inside (section_own text Problem keys section)
    (problem_inside scope (head_word text (elements section)) (drop 1 (elements section)))

abbrev pub faults_after : List ℕ → Known → List (List ℕ) → List Tree → List Fault
faults_after text known keys list = sections_faults Problem text known (record { keys = keys; actions = [] })
    list

pub section_taken_refused : (text : List ℕ) (known : Known) (scope : Scope)
    (keys : List (List ℕ)) (all : List Fault)
    (old left : List Form) (section : Form) (e : ReadEnd) → scope ≡ problem_scope text known →
    old ≡ section ∷ left →
    first (faults_after text known keys (trees old)) ≡ first all →
    Refuses (section_faults text scope keys (tree_of section)) e → Refuses all e
section_taken_refused text known scope keys all old left section e same is decides found =
    section_refused text known scope keys all (section ∷ left) 0 section e same (omega arith) refl
    (ap (λ l. first (faults_after text known keys (trees l))) (sym is) ∙ decides) found

pub section_taken_passed : (text : List ℕ) (known : Known) (scope : Scope)
    (earlier later : List (Bor (List ℕ)))
    (key : Bor (List ℕ)) (old left : List Form) (section : Form) → scope ≡ problem_scope text known →
    old ≡ section ∷ left →
    later ≡ earlier ++ key ∷ [] →
    key.now ≡ head_word text (elements (tree_of section)) → is_action text (tree_of section) ≡ false →
    first (section_faults text scope (texts earlier) (tree_of section)) ≡ None →
    first (faults_after text known (texts later) (trees left)) ≡ first
    (faults_after text known (texts earlier) (trees old))
section_taken_passed text known scope earlier later key old left section same is more key_is other none =
    section_passed text known scope earlier later key (section ∷ left) 0 section same (omega arith) refl
    more key_is other none ∙
    ap (λ l. first (faults_after text known (texts earlier) (trees l))) (sym is)

pub init_taken : (text : List ℕ) (known : Known) (scope : Scope) (key : List ℕ)
    (old_left left : List Form) (section : Form)
    (old new whole : List Atom) → scope ≡ problem_scope text known → old_left ≡ section ∷ left →
    new ≡ old ++ cond (bytes_eq (head_word text (elements (tree_of section))) key)
    (map (ground_atom scope) (drop 1 (elements (tree_of section)))) [] →
    old ++ map (ground_atom (problem_scope text known)) (all_after text key (trees old_left)) ≡ whole →
    new ++ map (ground_atom (problem_scope text known)) (all_after text key (trees left)) ≡ whole
init_taken text known scope key old_left left section old new whole same is step up =
    init_more text known scope key (section ∷ left) 0 section old new whole same (omega arith) refl step
    (ap (λ l. old ++ map (ground_atom (problem_scope text known)) (all_after text key (trees l))) (sym is) ∙
    up)

pub goal_taken : (text : List ℕ) (known : Known) (scope : Scope) (key : List ℕ)
    (old_left left : List Form) (section : Form)
    (old new whole : List Literal) → scope ≡ problem_scope text known → old_left ≡ section ∷ left →
    new ≡ old ++ cond (bytes_eq (head_word text (elements (tree_of section))) key)
    (flat_map (literals_of scope) (drop 1 (elements (tree_of section)))) [] →
    old ++ flat_map (literals_of (problem_scope text known)) (all_after text key (trees old_left)) ≡ whole →
    new ++ flat_map (literals_of (problem_scope text known)) (all_after text key (trees left)) ≡ whole
goal_taken text known scope key old_left left section old new whole same is step up =
    goal_more text known scope key (section ∷ left) 0 section old new whole same (omega arith) refl step
    (ap (λ l. old ++ flat_map (literals_of (problem_scope text known)) (all_after text key (trees l)))
    (sym is) ∙ up)

-- ---- a file

-- the elements of the first form after the first two are the sections
pub sections_taken : (forms : List Form) (file : Form) (inner once twice : List Form) → 0 < length forms →
    file ≡ get_or forms 0 file → trees inner ≡ elements (tree_of file) →
    once ≡ drop 1 inner → twice ≡ drop 1 once →
    trees twice ≡ sections (trees forms)
unfolding sections
sections_taken [] file inner once twice some is parts first_gone second_gone = absurd (omega (arith, some))
sections_taken (x ∷ forms) file inner once twice some is parts first_gone second_gone =
    ap trees (second_gone ∙ ap (drop 1) first_gone) ∙ both inner ∙
    ap (drop 2) (parts ∙ ap (λ f. elements (tree_of f)) is)
  where
    both : (fs : List Form) → trees (drop 1 (drop 1 fs)) ≡ drop 2 (trees fs)
    both [] = refl
    both (f ∷ []) = refl
    both (f ∷ g ∷ fs) = refl

pub no_sections : (forms : List Form) → length forms ≡ 0 → [] ≡ sections (trees forms)
unfolding sections
no_sections [] none = refl
no_sections (x ∷ forms) none = absurd (omega (arith, none))
