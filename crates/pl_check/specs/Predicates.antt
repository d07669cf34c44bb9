-- The predicates that a domain declares.
use Rattle.std.specs.Prelude.{◌≡◌, ℕ, Bool, true, not, List, [], ◌∷◌, ◌++◌, cond, map, filter, length, drop}
use Rattle.std.specs.Prelude.{nat_lt, bytes_eq}
use Rattle.std.specs.List.{list_any}
use Rattle.pl_text.specs.Trees.{Tree}
use Rattle.pl_check.specs.declared.fault.FaultKind.TheVariants as kind
use Rattle.pl_check.specs.declared.reading.Fault.{Fault}
use Rattle.pl_check.specs.declared.typed.TypedRole.TheVariants.{Variables}
use Rattle.pl_check.specs.Words.{is_variable, is_predicate_name}
use Rattle.pl_check.specs.Elements.{place, word_of, elements, head_word}
use Rattle.pl_check.specs.FaultLists.{fault_if, or_inside}
use Rattle.pl_check.specs.TypedLists.{typed_faults, at_start}

-- the name that a list of `:predicates` begins with
abbrev pub declared_name : List ℕ → Tree → List ℕ
declared_name text tree = head_word text (elements tree)

-- a list that begins with a predicate name
unfoldable pub is_declaration : List ℕ → Tree → Bool
is_declaration text tree = is_predicate_name (declared_name text tree)

-- the number of variables among the elements of a declaration
unfoldable pub declared_arity : List ℕ → Tree → ℕ
declared_arity text tree = length (filter is_variable (map (word_of text) (elements tree)))

-- the declarations among the elements of `:predicates` after its key
abbrev pub declarations : List ℕ → List Tree → List Tree
declarations text list = filter (is_declaration text) list

-- the faults of an element of `:predicates` itself, after declarations of these names
unfoldable pub declaration_own : List ℕ → List (List ℕ) → Tree → List Fault
declaration_own text earlier tree =
    cond (is_declaration text tree)
    (fault_if (list_any (bytes_eq (declared_name text tree)) earlier) (place tree) kind.Duplicate ++
    fault_if (nat_lt 64 (declared_arity text tree)) (place tree) kind.TooMany)
    (fault_if true (place tree) kind.BadForm)

-- the faults of an element of `:predicates`
unfoldable pub declaration_faults : List ℕ → List (List ℕ) → List (List ℕ) → Tree → List Fault
declaration_faults text types earlier tree =
    or_inside (declaration_own text earlier tree)
    (typed_faults text types Variables at_start (drop 1 (elements tree)))

-- the names declared before the next element
abbrev pub names_after : List ℕ → Tree → List (List ℕ) → List (List ℕ)
names_after text tree earlier = cond (is_declaration text tree) (earlier ++ declared_name text tree ∷ [])
    earlier

-- the faults of the elements of `:predicates` after its key
abbrev pub predicates_faults : List ℕ → List (List ℕ) → List (List ℕ) → List Tree → List Fault
predicates_faults text types earlier [] = []
predicates_faults text types earlier (tree ∷ rest) =
    declaration_faults text types earlier tree ++ predicates_faults text types (names_after text tree earlier)
    rest
