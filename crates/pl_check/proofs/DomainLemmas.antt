-- The sections of a domain.
use Rattle.std.proofs.Common.{◌≡◌, ℕ, zero, suc, append_assoc, ◌+◌, ◌<◌, Bool, true, false, cond, List, []}
use Rattle.std.proofs.Common.{◌∷◌, ◌++◌, map, drop, take, length, get_or, None, Some, Result, Ok, Err, refl}
use Rattle.std.proofs.Common.{sym, ap, ◌∙◌, subst, codes, bytes_eq}
use Rattle.std.specs.Prelude.{All}
use Rattle.std.specs.List.{list_any}
use Rattle.std.proofs.lemmas.List.{drop-map, at_drop_more}
use Rattle.std.proofs.lemmas.List.Elements.{All-drop}
use Rattle.std.specs.Borrow.{Bor}
use Rattle.pl_names.specs.Names.{texts}
use Rattle.pl_task.specs.declared.data.Schema.{Schema}
use Rattle.pl_text.specs.declared.form.Form.{Form}
use Rattle.pl_text.specs.Trees.{Tree, tree_of}
use Rattle.pl_check.specs.declared.fault.FaultKind.TheVariants as kind
use Rattle.pl_check.specs.declared.role.FileRole.TheVariants as role
use Rattle.pl_check.specs.declared.reading.Fault.{Fault}
use Rattle.pl_check.specs.declared.reading.ReadEnd.{ReadEnd}
use Rattle.pl_check.specs.declared.reading.ReadEnd.TheVariants as read_end
use Rattle.pl_check.specs.Actions.{action_name, action_faults, action_scope, first_place, pairs, pairs_faults}
use Rattle.pl_check.specs.Elements.{trees, elements, head_word}
use Rattle.pl_check.specs.FaultLists.{first, fault_if, or_inside}
use Rattle.pl_check.specs.Known.{Known, sections_of}
use Rattle.pl_check.specs.Reading.{Reads, HasFew}
use Rattle.pl_check.specs.Sections.{Earlier, earlier_after, is_action, section_own, domain_section}
use Rattle.pl_check.specs.Sections.{sections_faults}
use Rattle.pl_check.specs.Stated.{schema_of, stated_schema}
use Rattle.pl_check.proofs.FaultListLemmas.{first_none}
use Rattle.pl_check.proofs.KnownLemmas.{few_inside}

-- the forms inside a section after the first few have few elements
pub few_rest : (k : ℕ) (section : Tree) (parts rest : List Form) → HasFew section →
    trees parts ≡ elements section →
    rest ≡ drop k parts → All HasFew (trees rest)
few_rest k section parts rest few p r =
    let all : All HasFew (drop k (elements section)) = All-drop HasFew k (elements section)
    (few_inside section few) in
    subst (All HasFew) (ap (drop k) (sym p) ∙ drop-map tree_of k parts ∙ ap trees (sym r)) all

trees_of_rest : (k : ℕ) (section : Tree) (parts rest : List Form) → trees parts ≡ elements section →
    rest ≡ drop k parts →
    trees rest ≡ drop k (elements section)
trees_of_rest k section parts rest p r = ap trees r ∙ sym (drop-map tree_of k parts) ∙ ap (drop k) p

reads_pairs : (text : List ℕ) (known : Known) (earlier : List (List ℕ)) (section : Tree)
    (name : List ℕ) (ps : List Tree)
    (r : Result Schema ReadEnd) →
    first (fault_if (list_any (bytes_eq (action_name text section)) earlier)
    (first_place (drop 1 (elements section))) kind.Duplicate) ≡ None →
    name ≡ action_name text section → ps ≡ pairs section →
    Reads (pairs_faults (action_scope text known ps) [] ps) (λ schema. schema ≡ schema_of text known name ps)
    r →
    Reads (action_faults text known earlier section) (λ schema. schema ≡ stated_schema text known section) r
unfolding action_faults
reads_pairs text known earlier section name ps (Ok schema) none n p (clean, is) = (
  first_none _ _ none ∙ ap (λ l. first (pairs_faults (action_scope text known l) [] l)) (sym p) ∙ clean,
  is ∙ ap (λ x. schema_of text known x ps) n ∙ ap (schema_of text known (action_name text section)) p,
)
reads_pairs text known earlier section name ps (Err (read_end.Fault x)) none n p found =
    first_none _ _ none ∙ ap (λ l. first (pairs_faults (action_scope text known l) [] l)) (sym p) ∙ found
reads_pairs text known earlier section name ps (Err (read_end.Memory e)) none n p found = tt

-- an action whose name did not stand before is read by its pairs
pub action_reads : (text : List ℕ) (known : Known) (earlier : List (List ℕ)) (section : Tree)
    (parts after_key after_name : List Form)
    (name : List ℕ) (r : Result Schema ReadEnd) →
    first (fault_if (list_any (bytes_eq (action_name text section)) earlier)
    (first_place (drop 1 (elements section))) kind.Duplicate) ≡ None →
    trees parts ≡ elements section → after_key ≡ drop 1 parts → after_name ≡ drop 2 parts →
    name ≡ head_word text (trees after_key) →
    Reads (pairs_faults (action_scope text known (trees after_name)) [] (trees after_name))
    (λ schema. schema ≡ schema_of text known name (trees after_name)) r →
    Reads (action_faults text known earlier section) (λ schema. schema ≡ stated_schema text known section) r
action_reads text known earlier section parts after_key after_name name r none p a b n reads =
    reads_pairs text known earlier section name (trees after_name) r none
    (n ∙ ap (head_word text) (trees_of_rest 1 section parts after_key p a))
    (trees_of_rest 2 section parts after_name p b) reads

-- ---- the walk over sections

-- what is left of the sections: its faults decide, its schemas are still to come, and the names of its
-- actions follow
pub record IsLeft (text : List ℕ) (known : Known) (actions : List (List ℕ)) (all : List Tree)
    (keys : List (List ℕ)) (schemas : List Schema) (left : List Tree) : Type 0 where
  pub faults : first (sections_faults role.Domain text known (record { keys = []; actions = [] }) all) ≡
      first (sections_faults role.Domain text known
      (record { keys = keys; actions = take (length schemas) actions }) left)
  pub schemas_are : schemas ++ map (stated_schema text known) (sections_of text (codes ":action") left) ≡
      map (stated_schema text known) (sections_of text (codes ":action") all)
  pub names_are : drop (length schemas) actions ≡ map (action_name text)
      (sections_of text (codes ":action") left)

longer : {X : Type 0} (xs : List X) (x : X) → length (xs ++ x ∷ []) ≡ suc (length xs)
longer [] x = refl
longer (y ∷ xs) x = ap suc (longer xs x)

take_next : {X : Type 0} (xs : List X) (n : ℕ) (x : X) (rest : List X) → drop n xs ≡ x ∷ rest →
    take n xs ++ x ∷ [] ≡ take (suc n) xs
take_next [] zero x rest h = cc
take_next (y ∷ xs) zero x rest h = cc
take_next [] (suc n) x rest h = cc
take_next (y ∷ xs) (suc n) x rest h = ap (λ l. y ∷ l) (take_next xs n x rest h)

drop_next : {X : Type 0} (xs : List X) (n : ℕ) (x : X) (rest : List X) →
    drop n xs ≡ x ∷ rest → drop (suc n) xs ≡ rest
drop_next [] zero x rest h = cc
drop_next (y ∷ xs) zero x rest h = cc
drop_next [] (suc n) x rest h = cc
drop_next (y ∷ xs) (suc n) x rest h = drop_next xs n x rest h

abbrev earlier_of : List (List ℕ) → List (List ℕ) → Earlier
earlier_of keys actions = record { keys = keys; actions = actions }

abbrev section_faults : List ℕ → Known → List (List ℕ) → List (List ℕ) → Tree → List Fault
section_faults text known keys actions section =
    or_inside (section_own text role.Domain keys section)
    (domain_section text known (earlier_of keys actions) section)

left_action : (text : List ℕ) (known : Known) (actions : List (List ℕ))
    (all : List Tree) (keys : List (List ℕ))
    (schemas : List Schema) (section : Tree) (rest : List Tree) → is_action text section ≡ true →
    first (section_faults text known keys (take (length schemas) actions) section) ≡ None →
    IsLeft text known actions all keys schemas (section ∷ rest) →
    IsLeft text known actions all keys (schemas ++ stated_schema text known section ∷ []) rest
left_action text known actions all keys schemas section rest is none left = record {
  faults = left.faults ∙ first_none _ _ none ∙
      ap (λ e. first (sections_faults role.Domain text known e rest)) (after ∙ ap (earlier_of keys) taken);
  schemas_are = append_assoc schemas (stated_schema text known section ∷ []) _ ∙
      ap (λ l. schemas ++ map (stated_schema text known) l) (sym sections_are) ∙ left.schemas_are;
  names_are = ap (λ n. drop n actions) (longer schemas (stated_schema text known section)) ∙
      drop_next actions (length schemas) (action_name text section) _ follows;
}
  where
    sections_are : sections_of text (codes ":action") (section ∷ rest) ≡ section ∷ sections_of
        text (codes ":action") rest
    sections_are = ap (λ b. cond b (section ∷ sections_of text (codes ":action") rest)
        (sections_of text (codes ":action") rest)) is

    follows : drop (length schemas) actions ≡
        action_name text section ∷ map (action_name text) (sections_of text (codes ":action") rest)
    follows = left.names_are ∙ ap (map (action_name text)) sections_are

    taken : take (length schemas) actions ++ action_name text section ∷ [] ≡
        take (length (schemas ++ stated_schema text known section ∷ [])) actions
    taken = take_next actions (length schemas) (action_name text section) _ follows ∙
        ap (λ n. take n actions) (sym (longer schemas (stated_schema text known section)))

    after : earlier_after text section (earlier_of keys (take (length schemas) actions)) ≡
        earlier_of keys (take (length schemas) actions ++ action_name text section ∷ [])
    after = ap (λ b. cond b (earlier_of keys (take (length schemas) actions ++ action_name text section ∷ []))
        (earlier_of (keys ++ head_word text (elements section) ∷ []) (take (length schemas) actions))) is

left_other : (text : List ℕ) (known : Known) (actions : List (List ℕ))
    (all : List Tree) (keys : List (List ℕ))
    (schemas : List Schema) (section : Tree) (rest : List Tree) → is_action text section ≡ false →
    first (section_faults text known keys (take (length schemas) actions) section) ≡ None →
    IsLeft text known actions all keys schemas (section ∷ rest) →
    IsLeft text known actions all (keys ++ head_word text (elements section) ∷ []) schemas rest
left_other text known actions all keys schemas section rest is none left = record {
  faults = left.faults ∙ first_none _ _ none ∙
      ap (λ e. first (sections_faults role.Domain text known e rest)) after;
  schemas_are = ap (λ l. schemas ++ map (stated_schema text known) l) (sym sections_are) ∙ left.schemas_are;
  names_are = left.names_are ∙ ap (map (action_name text)) sections_are;
}
  where
    sections_are : sections_of text (codes ":action") (section ∷ rest) ≡ sections_of
        text (codes ":action") rest
    sections_are = ap (λ b. cond b (section ∷ sections_of text (codes ":action") rest)
        (sections_of text (codes ":action") rest)) is

    after : earlier_after text section (earlier_of keys (take (length schemas) actions)) ≡
        earlier_of (keys ++ head_word text (elements section) ∷ []) (take (length schemas) actions)
    after = ap (λ b. cond b (earlier_of keys (take (length schemas) actions ++ action_name text section ∷ []))
        (earlier_of (keys ++ head_word text (elements section) ∷ []) (take (length schemas) actions))) is

some_is : (b : Bool) (s schema : Schema) → cond b (Some s) None ≡ Some schema → (b ≡ true) × (s ≡ schema)
some_is true s schema h = (refl, cc)
some_is false s schema h = cc

none_is : (b : Bool) (s : Schema) → cond b (Some s) None ≡ None → b ≡ false
none_is true s h = cc
none_is false s h = refl

-- the sections from the one at which a walk stands
left_at : (sections : List Form) (i : ℕ) (section : Form) → i < length sections →
    section ≡ get_or sections i section →
    trees (drop i sections) ≡ tree_of section ∷ trees (drop (i + 1) sections)
left_at sections i section l e =
    at_drop_more trees sections i section l ∙ ap (λ f. tree_of f ∷ trees (drop (i + 1) sections)) (sym e)

-- past an action
pub past_action : (text : List ℕ) (known : Known) (actions : List (List ℕ)) (sections : List Form)
    (i : ℕ) (section : Form)
    (keys keys' : List (List ℕ)) (schemas schemas' : List Schema) (schema : Schema) → i < length sections →
    section ≡ get_or sections i section →
    first (section_faults text known keys (take (length schemas) actions) (tree_of section)) ≡ None →
    cond (is_action text (tree_of section)) (Some (stated_schema text known (tree_of section))) None ≡ Some
    schema →
    keys' ≡ keys → schemas' ≡ schemas ++ schema ∷ [] →
    IsLeft text known actions (trees sections) keys schemas (trees (drop i sections)) →
    IsLeft text known actions (trees sections) keys' schemas' (trees (drop (i + 1) sections))
past_action text known actions sections i section keys keys' schemas schemas' schema l
    e none found ks ss left =
    let is = some_is (is_action text (tree_of section)) (stated_schema text known (tree_of section)) schema
    found in
    let left' = subst (IsLeft text known actions (trees sections) keys schemas)
    (left_at sections i section l e) left in
    let next = left_action text known actions (trees sections) keys schemas (tree_of section)
    (trees (drop (i + 1) sections))
    is.0 none left' in
    let same : schemas ++ stated_schema text known (tree_of section) ∷ [] ≡ schemas' =
    ap (λ s. schemas ++ s ∷ []) is.1 ∙ sym ss in
    subst (λ k. IsLeft text known actions (trees sections) k schemas' (trees (drop (i + 1) sections)))
    (sym ks)
    (subst (λ s. IsLeft text known actions (trees sections) keys s (trees (drop (i + 1) sections))) same next)

-- past a section that isn't one
pub past_other : (text : List ℕ) (known : Known) (actions : List (List ℕ)) (sections : List Form)
    (i : ℕ) (section : Form)
    (keys keys' : List (List ℕ)) (schemas schemas' : List Schema) (key : List ℕ) → i < length sections →
    section ≡ get_or sections i section →
    first (section_faults text known keys (take (length schemas) actions) (tree_of section)) ≡ None →
    cond (is_action text (tree_of section)) (Some (stated_schema text known (tree_of section))) None ≡ None →
    key ≡ head_word text (elements (tree_of section)) → keys' ≡ keys ++ key ∷ [] → schemas' ≡ schemas →
    IsLeft text known actions (trees sections) keys schemas (trees (drop i sections)) →
    IsLeft text known actions (trees sections) keys' schemas' (trees (drop (i + 1) sections))
past_other text known actions sections i section keys keys' schemas schemas' key l e none found k ks ss left =
    let is = none_is (is_action text (tree_of section)) (stated_schema text known (tree_of section)) found in
    let left' = subst (IsLeft text known actions (trees sections) keys schemas)
    (left_at sections i section l e) left in
    let next = left_other text known actions (trees sections) keys schemas (tree_of section)
    (trees (drop (i + 1) sections))
    is none left' in
    let same : keys ++ head_word text (elements (tree_of section)) ∷ [] ≡ keys' =
    ap (λ x. keys ++ x ∷ []) (sym k) ∙ sym ks in
    subst (λ s. IsLeft text known actions (trees sections) keys' s (trees (drop (i + 1) sections))) (sym ss)
    (subst (λ x. IsLeft text known actions (trees sections) x schemas (trees (drop (i + 1) sections))) same
    next)

-- what a reading of the section found, for the walk's own lists
pub none_here : (text : List ℕ) (known : Known) (actions : List (List ℕ)) (section : Tree)
    (slice items : List (Bor (List ℕ)))
    (number : ℕ) (schemas : List Schema) → slice ≡ items → number ≡ length schemas →
    first (section_faults text known (texts slice) (take number actions) section) ≡ None →
    first (section_faults text known (texts items) (take (length schemas) actions) section) ≡ None
none_here text known actions section slice items number schemas s n none =
    subst (λ l. first (section_faults text known (texts l) (take (length schemas) actions) section) ≡ None) s
    (subst (λ k. first (section_faults text known (texts slice) (take k actions) section) ≡ None) n none)
