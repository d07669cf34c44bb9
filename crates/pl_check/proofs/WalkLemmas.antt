-- Walks over forms: the faults of what is left decide, and the values of what is left are still to come.
use Rattle.std.proofs.Common.{◌≡◌, ℕ, ◌+◌, ◌<◌, ◌≤◌, List, [], ◌∷◌, ◌++◌, map, drop, length, get_or, Option}
use Rattle.std.proofs.Common.{None, Some, Result, Ok, Err, true, refl, sym, ap, subst, ◌∙◌, append_assoc}
use Rattle.std.specs.List.{flat_map, filter_map}
use Rattle.std.proofs.lemmas.List.{at_drop_more, at_drop_all}
use Rattle.pl_text.specs.declared.form.Form.{Form}
use Rattle.pl_text.specs.Trees.{Tree, tree_of}
use Rattle.pl_check.specs.declared.fault.FaultKind.{FaultKind}
use Rattle.pl_check.specs.declared.reading.Fault.{Fault}
use Rattle.pl_check.specs.declared.reading.ReadEnd.{ReadEnd}
use Rattle.pl_check.specs.declared.reading.ReadEnd.TheVariants as read_end
use Rattle.pl_check.specs.Reading.{Refuses, Reads}
use Rattle.pl_check.specs.Elements.{trees}
use Rattle.pl_check.specs.FaultLists.{first, fault_if, or_inside}
use Rattle.pl_check.proofs.FaultListLemmas.{first_some, first_none}

-- the first fault of a list is its own, where it has one
pub inside_some : (own inner : List Fault) (x : Fault) → first own ≡ Some x →
    first (or_inside own inner) ≡ Some x
inside_some [] inner x h = cc
inside_some (f ∷ own) inner x h = h

-- else one inside
pub inside_none : (own inner : List Fault) → first own ≡ None → first (or_inside own inner) ≡ first inner
inside_none [] inner h = refl
inside_none (f ∷ own) inner h = cc

-- the fault of the form at which a walk stands is the first of what is left
pub left_some : (f : Tree → List Fault) (forms : List Form) (i : ℕ) (form : Form) (x : Fault) →
    i < length forms →
    first (f (tree_of (get_or forms i form))) ≡ Some x → first (flat_map f (trees (drop i forms))) ≡ Some x
left_some f forms i form x h here =
    at_drop_more (λ l. first (flat_map f (trees l))) forms i form h ∙ first_some _ _ x here

-- where it has none, what stands after it decides
pub left_none : (f : Tree → List Fault) (forms : List Form) (i : ℕ) (form : Form) → i < length forms →
    first (f (tree_of (get_or forms i form))) ≡ None →
    first (flat_map f (trees (drop i forms))) ≡ first (flat_map f (trees (drop (i + 1) forms)))
left_none f forms i form h here =
    at_drop_more (λ l. first (flat_map f (trees l))) forms i form h ∙ first_none _ _ here

-- nothing is left past the last form
pub left_end : (f : Tree → List Fault) (forms : List Form) (i : ℕ) → length forms ≤ i →
    first (flat_map f (trees (drop i forms))) ≡ None
left_end f forms i h = at_drop_all (λ l. first (flat_map f (trees l))) forms i h

-- the value of the form at which a walk stands goes to those so far
pub values_more : {A : Type 0} (f : Tree → List A) (forms : List Form) (i : ℕ) (form : Form)
    (all so_far more : List A) →
    i < length forms → all ≡ so_far ++ flat_map f (trees (drop i forms)) →
    more ≡ so_far ++ f (tree_of (get_or forms i form)) →
    all ≡ more ++ flat_map f (trees (drop (i + 1) forms))
values_more f forms i form all so_far more h is step =
    is ∙ ap (λ l. so_far ++ l) (at_drop_more (λ l. flat_map f (trees l)) forms i form h) ∙
    sym (append_assoc so_far (f (tree_of (get_or forms i form))) _) ∙
    ap (λ l. l ++ flat_map f (trees (drop (i + 1) forms))) (sym step)

-- past the last form they are all
pub values_end : {A : Type 0} (f : Tree → List A) (forms : List Form) (i : ℕ) (all so_far : List A) →
    length forms ≤ i →
    all ≡ so_far ++ flat_map f (trees (drop i forms)) → all ≡ so_far ++ []
values_end f forms i all so_far h is = is ∙
    ap (λ l. so_far ++ l) (at_drop_all (λ l. flat_map f (trees l)) forms i h)

-- a reading of the same faults, with a value of which more is known
pub reads_as : {A : Type 0} (faults others : List Fault) (P Q : A → Type 0) (r : Result A ReadEnd) →
    others ≡ faults → ((v : A) → P v → Q v) → Reads faults P r → Reads others Q r
reads_as faults others P Q (Ok v) same more (none, p) = (ap first same ∙ none, more v p)
reads_as faults others P Q (Err (read_end.Fault x)) same more found = ap first same ∙ found
reads_as faults others P Q (Err (read_end.Memory e)) same more found = tt

-- a refusal of the form at which a walk stands is one of all forms, where what is left decides
refuses_left : (f : Tree → List Fault) (all : List Fault) (forms : List Form) (i : ℕ) (form : Form)
    (e : ReadEnd) → i < length forms →
    first all ≡ first (flat_map f (trees (drop i forms))) → Refuses (f (tree_of (get_or forms i form))) e →
    Refuses all e
refuses_left f all forms i form (read_end.Fault x) h decides found = decides ∙
    left_some f forms i form x h found
refuses_left f all forms i form (read_end.Memory e) h decides found = tt

-- the same of the form that a loop has, and of the result of a call for it
pub refuses_here : {A : Type 0} (f : Tree → List Fault) (all : List Fault)
    (forms : List Form) (i : ℕ) (form : Form)
    (P : A → Type 0) (e : ReadEnd) (r : Result A ReadEnd) → i < length forms →
    first all ≡ first (flat_map f (trees (drop i forms))) → form ≡ get_or forms i form → r ≡ Err e →
    Reads (f (tree_of form)) P r → Refuses all e
refuses_here f all forms i form P e r h decides here is found =
    refuses_left f all forms i form e h decides
    (subst (λ t. Refuses (f (tree_of t)) e) here (subst (λ x. Reads (f (tree_of form)) P x) is found))

-- a refusal of the front of faults is one of all
pub refuses_first : (faults rest others : List Fault) (e : ReadEnd) → others ≡ faults ++ rest →
    Refuses faults e → Refuses others e
refuses_first faults rest others (read_end.Fault x) same found = ap first same ∙
    first_some faults rest x found
refuses_first faults rest others (read_end.Memory e) same found = tt

-- the refusal for the one fault that follows none
pub refuses_last : (faults others : List Fault) (at place : ℕ) (kind : FaultKind) {e : ReadEnd} →
    others ≡ faults ++ fault_if true at kind → first faults ≡ None → place ≡ at →
    e ≡ read_end.Fault (record { at = place; kind = kind }) → Refuses others e
refuses_last faults others at place kind same none here is =
    subst (Refuses others) (sym is)
    (ap first same ∙ first_none faults (fault_if true at kind) none ∙
    ap (λ p. Some (record { at = p; kind = kind })) (sym here))

-- what a list with faults of its own or inside gives, and what follows faults
pub ruleset walks = (inside_some, inside_none, first_some, first_none)
