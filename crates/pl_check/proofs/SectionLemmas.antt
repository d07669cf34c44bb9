-- The sections of a problem: their keys, and a walk over them.
use Rattle.std.proofs.Common.{◌≡◌, ℕ, ◌+◌, ◌<◌, Bool, true, false, not, cond, List, [], ◌∷◌, ◌++◌, map, drop}
use Rattle.std.proofs.Common.{length, get_or, Option, None, Some, Result, Err, refl, sym, ap, subst, ◌∙◌}
use Rattle.std.proofs.Common.{append_assoc, codes, bytes_eq, Bor}
use Rattle.std.specs.List.{list_any, flat_map}
use Rattle.std.proofs.lemmas.List.{at_drop_more, map_push, map-append}
use Rattle.std.proofs.lemmas.List.Concat.{flat_map-append}
use Rattle.std.proofs.lemmas.Slice.Eq.{bytes_eq-Decides}
use Rattle.pl_names.specs.Names.{texts}
use Rattle.pl_text.specs.declared.form.Form.{Form}
use Rattle.pl_text.specs.Trees.{Tree, tree_of}
use Rattle.pl_task.specs.declared.data.Atom.{Atom}
use Rattle.pl_task.specs.declared.data.Literal.{Literal}
use Rattle.pl_check.specs.declared.role.FileRole.TheVariants.{Problem}
use Rattle.pl_check.specs.declared.fault.FaultKind.TheVariants as kind
use Rattle.pl_check.specs.declared.reading.Fault.{Fault}
use Rattle.pl_check.specs.declared.reading.ReadEnd.{ReadEnd}
use Rattle.pl_check.specs.declared.reading.ReadEnd.TheVariants as read_end
use Rattle.pl_check.specs.Actions.{action_name}
use Rattle.pl_check.specs.Words.{is_key}
use Rattle.pl_check.specs.Elements.{trees, place, elements, head_word}
use Rattle.pl_check.specs.FaultLists.{first, fault_if, or_inside}
use Rattle.pl_check.specs.Known.{Known, has_key, sections_of, all_after}
use Rattle.pl_check.specs.Literals.{literals_of, ground_atom}
use Rattle.pl_check.specs.Reading.{Refuses}
use Rattle.pl_check.specs.Sections.{section_keys, section_own, has_shape, is_action, problem_inside}
use Rattle.pl_check.specs.Sections.{problem_section, problem_scope, earlier_after, sections_faults}
use Rattle.pl_check.specs.Terms.{Scope}
use Rattle.pl_check.proofs.FaultListLemmas.{first_some, first_none}

is_known : (is_one shape known : Bool) (at : ℕ) (last : List Fault) →
    first (cond is_one (fault_if (not shape) at kind.BadForm ++ fault_if (not known) at kind.Unsupported ++
    last)
    (fault_if true at kind.BadForm)) ≡ None → known ≡ true
is_known true true true at last h = refl
is_known true true false at last h = cc
is_known true false known at last h = cc
is_known false shape known at last h = cc

is_false : (b : Bool) → (b ≡ true → ⊥) → b ≡ false
is_false true h = absurd (h refl)
is_false false h = refl

other_key : (key : List ℕ) → list_any (bytes_eq key) (section_keys Problem) ≡ true →
    bytes_eq key (codes ":action") ≡ true → ⊥
unfolding section_keys
other_key key among same =
    let is : key ≡ codes ":action" = (bytes_eq-Decides key (codes ":action")).0 same in
    let none : false ≡ true = subst (λ (k : List ℕ). list_any (bytes_eq k) (section_keys Problem) ≡ true) is
    among in
    cc

-- a section of a problem without a fault of its own isn't an action
pub not_action : (text : List ℕ) (earlier : List (List ℕ)) (section : Tree) →
    first (section_own text Problem earlier section) ≡ None → is_action text section ≡ false
unfolding section_own
not_action text earlier section none =
    is_false (bytes_eq (head_word text (elements section)) (codes ":action"))
    (other_key (head_word text (elements section))
    (is_known (is_key (head_word text (elements section))) (has_shape text (elements section))
    (list_any (bytes_eq (head_word text (elements section))) (section_keys Problem)) (place section)
    (fault_if (list_any (bytes_eq (head_word text (elements section))) earlier) (place section)
    kind.Duplicate) none))

-- ---- the faults of what is left

-- the faults of one section
abbrev faults_at : List ℕ → Scope → List (List ℕ) → Tree → List Fault
faults_at text scope keys section =
    or_inside (section_own text Problem keys section)
    (problem_inside scope (head_word text (elements section)) (drop 1 (elements section)))

-- those of it and all after it
abbrev faults_from : List ℕ → Known → List (List ℕ) → List Tree → List Fault
faults_from text known keys list = sections_faults Problem text known (record { keys = keys; actions = [] })
    list

faults_cons : (text : List ℕ) (known : Known) (scope : Scope) (keys : List (List ℕ)) (section : Tree)
    (rest : List Tree) →
    scope ≡ problem_scope text known → faults_from text known keys (section ∷ rest) ≡
    faults_at text scope keys section ++
    sections_faults Problem text known (earlier_after text section (record { keys = keys; actions = [] }))
    rest
unfolding problem_section
faults_cons text known scope keys section rest same =
    ap (λ s. faults_at text s keys section ++
    sections_faults Problem text known (earlier_after text section (record { keys = keys; actions = [] }))
    rest) (sym same)

-- what is left begins with the section at which the walk stands
from_here : {A : Type 0} (f : List Tree → A) (sections : List Form) (i : ℕ) (section : Form) →
    i < length sections →
    section ≡ get_or sections i section →
    f (trees (drop i sections)) ≡ f (tree_of section ∷ trees (drop (i + 1) sections))
from_here f sections i section h is =
    at_drop_more (λ l. f (trees l)) sections i section h ∙
    ap (λ s. f (tree_of s ∷ trees (drop (i + 1) sections))) (sym is)

-- the scope in which sections are read
abbrev pub scope_of : List ℕ → Known → List (List ℕ) → Scope
scope_of text known parameters = record { text = text; known = known; parameters = parameters }

pub no_parameters : (text : List ℕ) (known : Known) (parameters : List (List ℕ)) → parameters ≡ [] →
    scope_of text known parameters ≡ problem_scope text known
no_parameters text known parameters none = ap (scope_of text known) none

-- a refusal of the section at which the walk stands is one of all
pub section_refused : (text : List ℕ) (known : Known) (scope : Scope) (keys : List (List ℕ))
    (all : List Fault)
    (sections : List Form) (i : ℕ) (section : Form) (e : ReadEnd) → scope ≡ problem_scope text known →
    i < length sections →
    section ≡ get_or sections i section → first (faults_from text known keys (trees (drop i sections))) ≡
    first all →
    Refuses (faults_at text scope keys (tree_of section)) e → Refuses all e
section_refused text known scope keys all sections i section (read_end.Fault x) same h is decides found =
    sym decides ∙ from_here (λ l. first (faults_from text known keys l)) sections i section h is ∙
    ap first (faults_cons text known scope keys (tree_of section) (trees (drop (i + 1) sections)) same) ∙
    first_some (faults_at text scope keys (tree_of section)) _ x found
section_refused text known scope keys all sections i section (read_end.Memory e) same h is decides found = tt

-- where it has no fault, what stands after it decides
pub section_passed : (text : List ℕ) (known : Known) (scope : Scope) (earlier later : List (Bor (List ℕ)))
    (key : Bor (List ℕ))
    (sections : List Form) (i : ℕ) (section : Form) → scope ≡ problem_scope text known → i < length sections →
    section ≡ get_or sections i section → later ≡ earlier ++ key ∷ [] →
    key.now ≡ head_word text (elements (tree_of section)) → is_action text (tree_of section) ≡ false →
    first (faults_at text scope (texts earlier) (tree_of section)) ≡ None →
    first (faults_from text known (texts later) (trees (drop (i + 1) sections))) ≡
    first (faults_from text known (texts earlier) (trees (drop i sections)))
section_passed text known scope earlier later key sections i section same h is more key_is other none =
    let rest : List Tree = trees (drop (i + 1) sections) in
    let keys : texts later ≡ texts earlier ++ head_word text (elements (tree_of section)) ∷ [] =
    ap texts more ∙ map_push (λ (k : Bor (List ℕ)). k.now) earlier key ∙
    ap (λ k. texts earlier ++ k ∷ []) key_is in
    sym (from_here (λ l. first (faults_from text known (texts earlier) l)) sections i section h is ∙
    ap first (faults_cons text known scope (texts earlier) (tree_of section) rest same) ∙
    first_none (faults_at text scope (texts earlier) (tree_of section)) _ none ∙
    ap (λ (b : Bool). first (sections_faults Problem text known (cond b
    (record { keys = texts earlier; actions = [] ++ action_name text (tree_of section) ∷ [] })
    (record { keys = texts earlier ++ head_word text (elements (tree_of section)) ∷ []; actions = [] }))
    rest)) other ∙
    ap (λ ks. first (faults_from text known ks rest)) (sym keys))

-- ---- what the sections of a key state

after_if : {A : Type 0} (f : List Tree → List A) → ((xs ys : List Tree) → f (xs ++ ys) ≡ f xs ++ f ys) →
    (section : Tree)
    (rest : List Tree) (b : Bool) → f (flat_map (λ s. drop 1 (elements s)) (cond b (section ∷ rest) rest)) ≡
    cond b (f (drop 1 (elements section))) [] ++ f (flat_map (λ s. drop 1 (elements s)) rest)
after_if f both section rest true = both (drop 1 (elements section))
    (flat_map (λ s. drop 1 (elements s)) rest)
after_if f both section rest false = refl

stated_more : {A : Type 0} (f : List Tree → List A) → ((xs ys : List Tree) → f (xs ++ ys) ≡ f xs ++ f ys) →
    (text key : List ℕ) (sections : List Form) (i : ℕ) (section : Form) (old new whole : List A) →
    i < length sections →
    section ≡ get_or sections i section →
    new ≡ old ++ cond (bytes_eq (head_word text (elements (tree_of section))) key)
    (f (drop 1 (elements (tree_of section)))) [] →
    old ++ f (all_after text key (trees (drop i sections))) ≡ whole →
    new ++ f (all_after text key (trees (drop (i + 1) sections))) ≡ whole
stated_more f both text key sections i section old new whole h is step up =
    let rest : List Tree = trees (drop (i + 1) sections) in
    ap (λ l. l ++ f (all_after text key rest)) step ∙
    append_assoc old (cond (bytes_eq (head_word text (elements (tree_of section))) key)
    (f (drop 1 (elements (tree_of section)))) []) (f (all_after text key rest)) ∙
    ap (λ l. old ++ l) (sym (from_here (λ l. f (all_after text key l)) sections i section h is ∙
    after_if f both (tree_of section) (sections_of text key rest)
    (bytes_eq (head_word text (elements (tree_of section))) key))) ∙
    up

pub init_more : (text : List ℕ) (known : Known) (scope : Scope) (key : List ℕ) (sections : List Form) (i : ℕ)
    (section : Form)
    (old new whole : List Atom) → scope ≡ problem_scope text known → i < length sections → section ≡
    get_or sections i section →
    new ≡ old ++ cond (bytes_eq (head_word text (elements (tree_of section))) key)
    (map (ground_atom scope) (drop 1 (elements (tree_of section)))) [] →
    old ++ map (ground_atom (problem_scope text known)) (all_after text key (trees (drop i sections))) ≡
    whole →
    new ++ map (ground_atom (problem_scope text known)) (all_after text key (trees (drop (i + 1) sections))) ≡
    whole
init_more text known scope key sections i section old new whole same h is step up =
    stated_more (map (ground_atom (problem_scope text known)))
    (map-append (ground_atom (problem_scope text known)))
    text key sections i section old new whole h is
    (step ∙ ap (λ s. old ++ cond (bytes_eq (head_word text (elements (tree_of section))) key)
    (map (ground_atom s) (drop 1 (elements (tree_of section)))) []) same) up

pub goal_more : (text : List ℕ) (known : Known) (scope : Scope) (key : List ℕ) (sections : List Form) (i : ℕ)
    (section : Form)
    (old new whole : List Literal) → scope ≡ problem_scope text known → i < length sections →
    section ≡ get_or sections i section →
    new ≡ old ++ cond (bytes_eq (head_word text (elements (tree_of section))) key)
    (flat_map (literals_of scope) (drop 1 (elements (tree_of section)))) [] →
    old ++ flat_map (literals_of (problem_scope text known)) (all_after text key (trees (drop i sections))) ≡
    whole →
    new ++ flat_map (literals_of (problem_scope text known))
    (all_after text key (trees (drop (i + 1) sections))) ≡ whole
goal_more text known scope key sections i section old new whole same h is step up =
    stated_more (flat_map (literals_of (problem_scope text known)))
    (flat_map-append (literals_of (problem_scope text known)))
    text key sections i section old new whole h is
    (step ∙ ap (λ s. old ++ cond (bytes_eq (head_word text (elements (tree_of section))) key)
    (flat_map (literals_of s) (drop 1 (elements (tree_of section)))) []) same) up
