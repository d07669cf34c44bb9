-- Typed lists: names or variables in groups, each with the type that follows it after `-`.
use Rattle.std.specs.Prelude.{◌≡◌, ℕ, Bool, true, false, not, cond, ◌&&◌, ◌||◌, ◌==◌, List, [], ◌∷◌, ◌++◌}
use Rattle.std.specs.Prelude.{map, filter, length, drop, nat_le, codes, bytes_eq, is_none}
use Rattle.std.specs.List.{list_any, flat_map, filter_map}
use Rattle.pl_names.specs.Names.{texts, number_among}
use Rattle.pl_text.specs.Trees.{Tree}
use Rattle.pl_check.specs.declared.fault.FaultKind.TheVariants as kind
use Rattle.pl_check.specs.declared.reading.Fault.{Fault}
use Rattle.pl_check.specs.declared.typed.Group.{Group}
use Rattle.pl_check.specs.declared.typed.TypedRole.{TypedRole}
use Rattle.pl_check.specs.declared.typed.TypedRole.TheVariants.{Names, Parameters, Variables}
use Rattle.pl_check.specs.Words.{is_name, is_variable}
use Rattle.pl_check.specs.Elements.{place, is_list, word_of, elements, head_word}
use Rattle.pl_check.specs.FaultLists.{fault_if, or_inside}

-- whether the element is the word `-`
abbrev pub is_dash : List ℕ → Tree → Bool
is_dash text tree = bytes_eq (word_of text tree) (codes "-")

-- An element is in item position where it isn't `-` and has no `-` right before it, as `after_dash` says.
abbrev pub is_in_item_position : List ℕ → Bool → Tree → Bool
is_in_item_position text after_dash tree = not after_dash && not (is_dash text tree)

-- The elements in item position: those that aren't `-` and have no `-` right before them. `after_dash` says
-- whether one stands before these elements; an element with one before it is in type position, whatever it
-- is.
abbrev pub items : List ℕ → Bool → List Tree → List Tree
items text after_dash [] = []
items text after_dash (tree ∷ rest) =
    cond (after_dash || is_dash text tree) (items text (is_dash text tree) rest)
    (tree ∷ items text false rest)

-- the names among items
abbrev pub item_names : List ℕ → List Tree → List (List ℕ)
item_names text list = filter is_name (map (word_of text) (items text false list))

-- the variables among items
abbrev pub item_variables : List ℕ → List Tree → List (List ℕ)
item_variables text list = filter is_variable (map (word_of text) (items text false list))

-- the types that an element in type position names: one, or those after `either`
abbrev pub named_types : List ℕ → Tree → List (List ℕ)
named_types text tree =
    cond (is_list tree) (map (word_of text) (drop 1 (elements tree))) (word_of text tree ∷ [])

-- the numbers of types among those that are named
abbrev pub type_numbers : List (List ℕ) → List (List ℕ) → List ℕ
type_numbers types named = filter_map (number_among types) named

-- the types of the group that is open before these elements: those that follow it, or `object` where none
-- follow
abbrev pub group_types : List ℕ → Bool → List Tree → List (List ℕ)
group_types text after_dash [] = codes "object" ∷ []
group_types text after_dash (tree ∷ rest) =
    cond after_dash (named_types text tree) (group_types text (is_dash text tree) rest)

-- an item with the types of its group
pub record Item : Type 0 where
  pub name : List ℕ
  pub types : List (List ℕ)

-- the items of a typed list
abbrev pub typed_items : List ℕ → Bool → List Tree → List Item
typed_items text after_dash [] = []
typed_items text after_dash (tree ∷ rest) =
    cond (after_dash || is_dash text tree) (typed_items text (is_dash text tree) rest)
    (record { name = word_of text tree; types = group_types text false rest } ∷ typed_items text false rest)

-- What stands before an element: whether it is `-`, whether the group has an item, and the items that may not
-- stand again.
pub record Before : Type 0 where
  pub after_dash : Bool
  pub has_item : Bool
  pub parameters : List (List ℕ)

-- before the first element
abbrev pub at_start : Before
at_start = record { after_dash = false; has_item = false; parameters = [] }

-- whether a word may be an item
unfoldable pub is_item : TypedRole → List ℕ → Bool
is_item Names word = is_name word
is_item Parameters word = is_variable word
is_item Variables word = is_variable word

-- whether items may not be repeated
unfoldable pub are_distinct : TypedRole → Bool
are_distinct Names = false
are_distinct Parameters = true
are_distinct Variables = false

-- whether `(either t ..)` may stand in type position
unfoldable pub takes_either : TypedRole → Bool
takes_either Names = false
takes_either Parameters = true
takes_either Variables = true

-- what stands before the next element
unfoldable pub after : List ℕ → TypedRole → Tree → Before → Before
after text role tree before = record {
  after_dash = is_dash text tree;
  has_item = not before.after_dash && (before.has_item || not (is_dash text tree));
  parameters = cond (not before.after_dash && are_distinct role && is_variable (word_of text tree))
      (before.parameters ++ word_of text tree ∷ []) before.parameters;
}

-- the faults of an item
unfoldable pub item_faults : List ℕ → TypedRole → Before → Tree → List Fault
item_faults text role before tree =
    fault_if (not (is_item role (word_of text tree))) (place tree) kind.BadForm ++
    fault_if (list_any (bytes_eq (word_of text tree)) before.parameters) (place tree) kind.Duplicate

-- the faults of the name of a type
unfoldable pub type_name_faults : List ℕ → List (List ℕ) → Tree → List Fault
type_name_faults text types tree =
    cond (is_name (word_of text tree))
    (fault_if (is_none (number_among types (word_of text tree))) (place tree) kind.UnknownType)
    (fault_if true (place tree) kind.BadForm)

-- `(either t ..)` with at least one further element
unfoldable pub is_either : List ℕ → Tree → Bool
is_either text tree = bytes_eq (head_word text (elements tree)) (codes "either") && nat_le 2
    (length (elements tree))

-- the faults of an element in type position
unfoldable pub type_faults : List ℕ → List (List ℕ) → TypedRole → Tree → List Fault
type_faults text types role tree =
    cond (is_list tree)
    (or_inside (fault_if (not (takes_either role && is_either text tree)) (place tree) kind.BadForm)
    (flat_map (type_name_faults text types) (drop 1 (elements tree))))
    (type_name_faults text types tree)

-- the faults of `-` that isn't in type position: it has no item before it, or it is the last element
unfoldable pub dash_faults : Before → Bool → Tree → List Fault
dash_faults before is_last tree = fault_if (not before.has_item || is_last) (place tree) kind.BadForm

-- the faults of an element
unfoldable pub element_faults : List ℕ → List (List ℕ) → TypedRole → Before → Bool → Tree → List Fault
element_faults text types role before is_last tree =
    cond before.after_dash (type_faults text types role tree)
    (cond (is_dash text tree) (dash_faults before is_last tree) (item_faults text role before tree))

-- the faults of a typed list
abbrev pub typed_faults : List ℕ → List (List ℕ) → TypedRole → Before → List Tree → List Fault
typed_faults text types role before [] = []
typed_faults text types role before (tree ∷ rest) =
    element_faults text types role before (length rest == 0) tree ++
    typed_faults text types role (after text role tree before) rest

-- what a walk over a typed list keeps, as what stands before the next element
abbrev pub before_of : Group → Before
before_of group = record {
  after_dash = group.after_dash;
  has_item = group.has_item;
  parameters = texts group.parameters.items;
}
