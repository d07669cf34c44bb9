-- Terms, and atoms and equalities over them.
use Rattle.std.specs.Prelude.{◌≡◌, ℕ, Bool, true, false, not, cond, ◌&&◌, ◌||◌, ◌==◌, List, [], ◌∷◌, ◌++◌}
use Rattle.std.specs.Prelude.{map, length, drop, codes, bytes_eq, slice_get, Option, Some, None, option_map}
use Rattle.std.specs.Prelude.{option_and_then, is_some, is_none}
use Rattle.std.specs.List.{flat_map, filter_map}
use Rattle.pl_names.specs.Names.{number_among}
use Rattle.pl_task.specs.declared.data.Term.{Term}
use Rattle.pl_task.specs.declared.data.Term.TheVariants as term
use Rattle.pl_text.specs.Trees.{Tree}
use Rattle.pl_check.specs.declared.fault.FaultKind.TheVariants as kind
use Rattle.pl_check.specs.declared.reading.Fault.{Fault}
use Rattle.pl_check.specs.declared.head.Head.{Head}
use Rattle.pl_check.specs.declared.head.Head.TheVariants.{Nothing, NoName, And, Not, Equals, Reserved, Name}
use Rattle.pl_check.specs.Words.{is_name, is_variable, is_reserved}
use Rattle.pl_check.specs.Elements.{place, word_of, elements, head_word}
use Rattle.pl_check.specs.FaultLists.{fault_if, or_inside}
use Rattle.pl_check.specs.Known.{Known}

-- what a form is read with: its file in small letters, what both files declare, and the parameters of its
-- action
pub record Scope : Type 0 where
  pub text : List ℕ
  pub known : Known
  pub parameters : List (List ℕ)

-- a variable as the parameter that it is, a name as the object, where there is one
unfoldable pub term_named : Scope → List ℕ → Option Term
term_named scope name =
    cond (is_variable name) (option_map term.Parameter (number_among scope.parameters name))
    (option_map term.Object (number_among scope.known.objects name))

-- the term that a form is, if it is one
abbrev pub term_of : Scope → Tree → Option Term
term_of scope tree = term_named scope (word_of scope.text tree)

-- the faults of a term
unfoldable pub term_faults : Scope → Tree → List Fault
term_faults scope tree =
    cond (is_variable (word_of scope.text tree) || is_name (word_of scope.text tree))
    (fault_if (is_none (term_of scope tree)) (place tree) kind.UnknownName)
    (fault_if true (place tree) kind.BadForm)

-- the kind of word that a list begins with
unfoldable pub head_by : List ℕ → Head
head_by word =
    cond (bytes_eq word (codes "and")) And
    (cond (bytes_eq word (codes "not")) Not
    (cond (bytes_eq word (codes "=")) Equals
    (cond (not (is_name word)) NoName
    (cond (is_reserved word) Reserved Name))))

unfoldable pub head_of : List ℕ → List Tree → Head
head_of text [] = Nothing
head_of text (tree ∷ rest) = head_by (word_of text tree)

-- the number of arguments of the predicate of this name, if there is one
abbrev pub arity_of : Known → List ℕ → Option ℕ
arity_of known name = option_and_then (slice_get known.arities) (number_among known.predicates name)

-- the faults of an atom with this many arguments itself
abbrev pub atom_own : Option ℕ → ℕ → ℕ → List Fault
atom_own None count at = fault_if true at kind.UnknownPredicate
atom_own (Some arity) count at = fault_if (not (count == arity)) at kind.WrongArity

-- the faults of an equality with this many arguments itself, where equalities may stand or not
abbrev pub equality_own : Bool → ℕ → ℕ → List Fault
equality_own allowed count at =
    cond allowed (fault_if (not (count == 2)) at kind.WrongArity) (fault_if true at kind.Unsupported)

-- the faults of an atom of these elements itself
abbrev pub atom_faults : Scope → ℕ → List Tree → List Fault
atom_faults scope at list = atom_own (arity_of scope.known (head_word scope.text list))
    (length (drop 1 list)) at

-- The faults, by its head, of a list itself that should be an atom, or an equality where these are allowed.
abbrev pub basic_by : Head → Scope → Bool → ℕ → List Tree → List Fault
basic_by Nothing scope equality at list = fault_if true at kind.BadForm
basic_by NoName scope equality at list = fault_if true at kind.BadForm
basic_by And scope equality at list = fault_if true at kind.Unsupported
basic_by Not scope equality at list = fault_if true at kind.Unsupported
basic_by Reserved scope equality at list = fault_if true at kind.Unsupported
basic_by Equals scope equality at list = equality_own equality (length (drop 1 list)) at
basic_by Name scope equality at list = atom_faults scope at list

unfoldable pub basic_own : Scope → Bool → Tree → List Fault
basic_own scope equality tree =
    basic_by (head_of scope.text (elements tree)) scope equality (place tree) (elements tree)

-- the faults of terms
abbrev pub terms_faults : Scope → List Tree → List Fault
terms_faults scope list = flat_map (term_faults scope) list

-- the faults of a form that should be an atom, or an equality where these are allowed
unfoldable pub basic_faults : Scope → Bool → Tree → List Fault
basic_faults scope equality tree =
    or_inside (basic_own scope equality tree) (terms_faults scope (drop 1 (elements tree)))
