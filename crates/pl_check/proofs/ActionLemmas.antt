-- Actions: the parameters of items, a walk over pairs, and the schema that it ends with.
use Rattle.std.proofs.Common.{◌≡◌, ◌≤◌, ℕ, suc, List, [], ◌∷◌, ◌++◌, map, drop, length, get_or, All, arith}
use Rattle.std.proofs.Common.{false, cond, None, Some, refl, sym, ap, ◌∙◌, append_assoc}
use Rattle.std.specs.List.{filter_map}
use Rattle.std.specs.Prelude.{codes, bytes_eq}
use Rattle.pl_task.specs.declared.data.Literal.{Literal}
use Rattle.pl_task.specs.declared.data.Schema.{Schema}
use Rattle.pl_text.specs.declared.form.Form.{Form}
use Rattle.pl_text.specs.Trees.{Tree, tree_of}
use Rattle.pl_check.specs.declared.reading.Fault.{Fault}
use Rattle.pl_check.specs.Actions.{first_value, value_elements, parameter_elements, action_scope}
use Rattle.pl_check.specs.Actions.{key_faults, value_faults, pairs_faults, keyed_literals}
use Rattle.pl_check.specs.Elements.{trees, word_of}
use Rattle.pl_check.specs.FaultLists.{first, or_inside}
use Rattle.pl_check.specs.Known.{Known}
use Rattle.pl_check.specs.Literals.{literals_of, added, deleted}
use Rattle.pl_check.specs.Reading.{numbered, as_parameter, HasFew}
use Rattle.pl_check.specs.Stated.{parameter_of, schema_of}
use Rattle.pl_check.specs.Terms.{Scope}
use Rattle.pl_check.specs.TypedLists.{Item, item_variables, typed_items}
use Rattle.pl_check.proofs.FaultListLemmas.{first_none}

-- the parameters of items
pub parameters_are : (types : List (List ℕ)) (list : List Item) →
    map as_parameter (map (numbered types) list) ≡ map (parameter_of types) list
parameters_are types [] = refl
parameters_are types (item ∷ list) = ap (λ l. parameter_of types item ∷ l) (parameters_are types list)

-- ---- a walk over pairs

-- the pair at which a walk stands, and what is left after it
pub pair_of : (forms : List Form) (name value : Form) → 2 ≤ length forms →
    name ≡ get_or forms 0 name → value ≡ get_or forms 1 value →
    trees forms ≡ tree_of name ∷ tree_of value ∷ trees (drop 2 forms)
pair_of [] name value h n v = absurd (omega arith)
pair_of (a ∷ []) name value h n v = absurd (omega arith)
pair_of (a ∷ b ∷ rest) name value h n v =
    ap (λ x. tree_of x ∷ tree_of b ∷ trees rest) (sym n) ∙
    ap (λ x. tree_of name ∷ tree_of x ∷ trees rest) (sym v)

-- what is left after a pair has few elements
pub few_left : (forms : List Form) → All HasFew (trees forms) → All HasFew (trees (drop 2 forms))
few_left [] few k d l = absurd (omega arith)
few_left (a ∷ []) few k d l = absurd (omega arith)
few_left (a ∷ b ∷ rest) few k d l = few (suc (suc k)) d (omega arith)

-- where the first key isn't `:parameters`, what is left after its pair decides
pub parameters_left : (text : List ℕ) (forms : List Form) (name : Form) → 2 ≤ length forms →
    name ≡ get_or forms 0 name → bytes_eq (word_of text (tree_of name)) (codes ":parameters") ≡ false →
    parameter_elements text (trees forms) ≡ parameter_elements text (trees (drop 2 forms))
parameters_left text [] name h n other = absurd (omega arith)
parameters_left text (a ∷ []) name h n other = absurd (omega arith)
parameters_left text (a ∷ b ∷ rest) name h n other =
    ap (λ t. value_elements (cond t (Some (tree_of b)) (first_value text (codes ":parameters") (trees rest))))
    (ap (λ x. bytes_eq (word_of text (tree_of x)) (codes ":parameters")) (sym n) ∙ other)

-- past the last pair there is no `:parameters`
pub parameters_end : (text : List ℕ) (forms : List Form) → length forms ≤ 1 →
    parameter_elements text (trees forms) ≡ []
parameters_end text [] h = refl
parameters_end text (a ∷ []) h = refl
parameters_end text (a ∷ b ∷ rest) h = absurd (omega arith)

-- the faults of a pair
abbrev pub pair_faults : Scope → List (List ℕ) → Tree → Tree → List Fault
pair_faults scope earlier name value =
    or_inside (key_faults scope earlier name) (value_faults scope (word_of scope.text name) value)

-- the faults of the pair at which a walk stands come first
pairs_next : (scope : Scope) (earlier : List (List ℕ)) (forms : List Form) (name value : Form) →
    2 ≤ length forms → name ≡ get_or forms 0 name → value ≡ get_or forms 1 value →
    pairs_faults scope earlier (trees forms) ≡ pair_faults scope earlier (tree_of name) (tree_of value) ++
    pairs_faults scope (earlier ++ word_of scope.text (tree_of name) ∷ []) (trees (drop 2 forms))
pairs_next scope earlier forms name value h n v =
    ap (pairs_faults scope earlier) (pair_of forms name value h n v)

-- where it has none, what is left after it decides
pub pairs_none : (scope : Scope) (all : List Fault) (earlier more : List (List ℕ)) (forms : List Form)
    (name value : Form) → 2 ≤ length forms → name ≡ get_or forms 0 name → value ≡ get_or forms 1 value →
    first all ≡ first (pairs_faults scope earlier (trees forms)) →
    first (pair_faults scope earlier (tree_of name) (tree_of value)) ≡ None →
    more ≡ earlier ++ word_of scope.text (tree_of name) ∷ [] →
    first all ≡ first (pairs_faults scope more (trees (drop 2 forms)))
pairs_none scope all earlier more forms name value h n v decides none is =
    decides ∙ ap first (pairs_next scope earlier forms name value h n v) ∙
    first_none (pair_faults scope earlier (tree_of name) (tree_of value)) _ none ∙
    ap (λ l. first (pairs_faults scope l (trees (drop 2 forms)))) (sym is)

-- past the last pair there is none
pub pairs_end : (scope : Scope) (earlier : List (List ℕ)) (forms : List Form) → length forms ≤ 1 →
    first (pairs_faults scope earlier (trees forms)) ≡ None
pairs_end scope earlier [] h = refl
pairs_end scope earlier (a ∷ []) h = refl
pairs_end scope earlier (a ∷ b ∷ rest) h = absurd (omega arith)

-- the literals of the pair at which a walk stands go to those so far
pub keyed_next : (scope : Scope) (key : List ℕ) (all so_far more : List Literal) (forms : List Form)
    (name value : Form) → 2 ≤ length forms → name ≡ get_or forms 0 name → value ≡ get_or forms 1 value →
    all ≡ so_far ++ keyed_literals scope key (trees forms) →
    more ≡ so_far ++
    cond (bytes_eq (word_of scope.text (tree_of name)) key) (literals_of scope (tree_of value)) [] →
    all ≡ more ++ keyed_literals scope key (trees (drop 2 forms))
keyed_next scope key all so_far more forms name value h n v is step =
    let here : List Literal =
    cond (bytes_eq (word_of scope.text (tree_of name)) key) (literals_of scope (tree_of value)) [] in
    is ∙ ap (λ l. so_far ++ keyed_literals scope key l) (pair_of forms name value h n v) ∙
    sym (append_assoc so_far here _) ∙
    ap (λ l. l ++ keyed_literals scope key (trees (drop 2 forms))) (sym step)

-- past the last pair there are none
pub keyed_end : (scope : Scope) (key : List ℕ) (forms : List Form) → length forms ≤ 1 →
    keyed_literals scope key (trees forms) ≡ []
keyed_end scope key [] h = refl
keyed_end scope key (a ∷ []) h = refl
keyed_end scope key (a ∷ b ∷ rest) h = absurd (omega arith)

-- ---- the schema of an action

-- what a form is read with, of its parts
abbrev scope_with : List ℕ → Known → List (List ℕ) → Scope
scope_with text known names = record { text = text; known = known; parameters = names }

-- the scope of the walk is that of the action
pub scope_is : (text : List ℕ) (known : Known) (names : List (List ℕ)) (parameters list : List Tree) →
    parameters ≡ parameter_elements text list → names ≡ item_variables text parameters →
    scope_with text known names ≡ action_scope text known list
scope_is text known names parameters list p n = ap (scope_with text known) (n ∙ ap (item_variables text) p)

-- a schema of its parts, where these are the elements of `:parameters`
abbrev schema_with : List ℕ → Known → List ℕ → List Tree → List Literal → List Literal → Schema
schema_with text known name parameters condition effect = record {
  name = name;
  parameters = map (parameter_of known.types) (typed_items text false parameters);
  condition = condition;
  delete = filter_map deleted effect;
  add = filter_map added effect;
}

-- what a walk without a fault gives is the schema that the action states
pub action_is : (text : List ℕ) (known : Known) (name : List ℕ) (list parameters : List Tree) (scope : Scope)
    (condition effect : List Literal) (schema : Schema) →
    scope ≡ action_scope text known list → parameters ≡ parameter_elements text list →
    first (pairs_faults scope [] list) ≡ None →
    condition ≡ keyed_literals scope (codes ":precondition") list →
    effect ≡ keyed_literals scope (codes ":effect") list →
    schema ≡ schema_with text known name parameters condition effect →
    (first (pairs_faults (action_scope text known list) [] list) ≡ None) ×
    (schema ≡ schema_of text known name list)
action_is text known name list parameters scope condition effect schema s p none c e is =
    let condition_is : condition ≡ keyed_literals (action_scope text known list)
    (codes ":precondition") list =
    c ∙ ap (λ t. keyed_literals t (codes ":precondition") list) s in
    let effect_is : effect ≡ keyed_literals (action_scope text known list) (codes ":effect") list =
    e ∙ ap (λ t. keyed_literals t (codes ":effect") list) s in (
      ap (λ t. first (pairs_faults t [] list)) (sym s) ∙ none,
      is ∙ ap (λ l. schema_with text known name l condition effect) p ∙
          ap (λ l. schema_with text known name (parameter_elements text list) l effect) condition_is ∙
          ap (schema_with text known name (parameter_elements text list) _) effect_is,
    )
