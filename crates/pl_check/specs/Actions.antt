-- Actions: a name, then pairs of a key and a value.
use Rattle.std.specs.Prelude.{◌≡◌, ℕ, Bool, true, false, not, cond, ◌&&◌, ◌||◌, List, [], ◌∷◌, ◌++◌, map}
use Rattle.std.specs.Prelude.{length, drop, nat_lt, codes, bytes_eq, Option, Some, None}
use Rattle.std.specs.List.{list_any, flat_map}
use Rattle.pl_task.specs.declared.data.Literal.{Literal}
use Rattle.pl_text.specs.Trees.{Tree}
use Rattle.pl_check.specs.declared.fault.FaultKind.TheVariants as kind
use Rattle.pl_check.specs.declared.reading.Fault.{Fault}
use Rattle.pl_check.specs.declared.typed.TypedRole.TheVariants.{Parameters}
use Rattle.pl_check.specs.Words.{is_key}
use Rattle.pl_check.specs.Elements.{place, is_list, word_of, elements, head_word}
use Rattle.pl_check.specs.FaultLists.{fault_if, or_inside}
use Rattle.pl_check.specs.TypedLists.{items, item_variables, typed_faults, at_start}
use Rattle.pl_check.specs.Known.{Known}
use Rattle.pl_check.specs.Terms.{Scope}
use Rattle.pl_check.specs.Conditions.{precondition_faults, effect_faults}
use Rattle.pl_check.specs.Literals.{literals_of}

-- the pairs of an action stand after its key and its name
abbrev pub pairs : Tree → List Tree
pairs action = drop 2 (elements action)

-- the value of the first pair with this key
abbrev pub first_value : List ℕ → List ℕ → List Tree → Option Tree
first_value text key [] = None
first_value text key (name ∷ []) = None
first_value text key (name ∷ value ∷ rest) =
    cond (bytes_eq (word_of text name) key) (Some value) (first_value text key rest)

-- the elements of a value that is a list, and none where there is no value
abbrev pub value_elements : Option Tree → List Tree
value_elements None = []
value_elements (Some value) = elements value

-- the elements of the first `:parameters` among pairs
abbrev pub parameter_elements : List ℕ → List Tree → List Tree
parameter_elements text list = value_elements (first_value text (codes ":parameters") list)

-- what the values of pairs are read with: the parameters are the variables in item position of the first
-- `:parameters`
abbrev pub action_scope : List ℕ → Known → List Tree → Scope
action_scope text known list =
    record { text = text; known = known; parameters = item_variables text (parameter_elements text list) }

-- the faults of the value of `:parameters`
unfoldable pub parameters_faults : Scope → Tree → List Fault
parameters_faults scope value =
    or_inside (fault_if (not (is_list value)) (place value) kind.BadForm ++
    fault_if (nat_lt 64 (length (items scope.text false (elements value)))) (place value) kind.TooMany)
    (typed_faults scope.text scope.known.types Parameters at_start (elements value))

-- whether the word is a key of actions
unfoldable pub is_action_key : List ℕ → Bool
is_action_key name =
    bytes_eq name (codes ":parameters") || bytes_eq name (codes ":precondition") ||
    bytes_eq name (codes ":effect")

-- the faults of the first of a pair, after pairs with these keys
unfoldable pub key_faults : Scope → List (List ℕ) → Tree → List Fault
key_faults scope earlier name =
    cond (is_key (word_of scope.text name))
    (fault_if (not (is_action_key (word_of scope.text name))) (place name) kind.Unsupported ++
    fault_if (list_any (bytes_eq (word_of scope.text name)) earlier) (place name) kind.Duplicate)
    (fault_if true (place name) kind.BadForm)

-- the faults of a value, by its key
unfoldable pub value_faults : Scope → List ℕ → Tree → List Fault
value_faults scope key value =
    cond (bytes_eq key (codes ":parameters")) (parameters_faults scope value)
    (cond (bytes_eq key (codes ":precondition")) (precondition_faults scope value)
    (effect_faults scope value))

-- the faults of pairs, after pairs with these keys; the value of a key with a fault isn't looked at
abbrev pub pairs_faults : Scope → List (List ℕ) → List Tree → List Fault
pairs_faults scope earlier [] = []
pairs_faults scope earlier (name ∷ []) = []
pairs_faults scope earlier (name ∷ value ∷ rest) =
    or_inside (key_faults scope earlier name) (value_faults scope (word_of scope.text name) value) ++
    pairs_faults scope (earlier ++ word_of scope.text name ∷ []) rest

-- the name of an action, and where it stands
abbrev pub action_name : List ℕ → Tree → List ℕ
action_name text action = head_word text (drop 1 (elements action))

abbrev pub first_place : List Tree → ℕ
first_place [] = 0
first_place (tree ∷ rest) = place tree

-- the faults inside an action, after actions of these names
unfoldable pub action_faults : List ℕ → Known → List (List ℕ) → Tree → List Fault
action_faults text known earlier action =
    fault_if (list_any (bytes_eq (action_name text action)) earlier) (first_place (drop 1 (elements action)))
    kind.Duplicate ++
    pairs_faults (action_scope text known (pairs action)) [] (pairs action)

-- the literals of the values with this key, of which an action without a fault has one at most
abbrev pub keyed_literals : Scope → List ℕ → List Tree → List Literal
keyed_literals scope key [] = []
keyed_literals scope key (name ∷ []) = []
keyed_literals scope key (name ∷ value ∷ rest) =
    cond (bytes_eq (word_of scope.text name) key) (literals_of scope value) [] ++
    keyed_literals scope key rest
