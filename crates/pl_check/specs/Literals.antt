-- The literals of a condition or an effect, in reading order.
use Rattle.std.specs.Prelude.{◌≡◌, ℕ, Bool, true, false, List, [], ◌∷◌, ◌++◌, map, drop, Option, Some, None}
use Rattle.std.specs.Prelude.{unwrap_or, option_map}
use Rattle.std.specs.List.{flat_map, filter_map}
use Rattle.pl_names.specs.Names.{number_among}
use Rattle.pl_task.specs.declared.data.Atom.{Atom}
use Rattle.pl_task.specs.declared.data.GoalLiteral.{GoalLiteral}
use Rattle.pl_task.specs.declared.data.Lifted.{Lifted}
use Rattle.pl_task.specs.declared.data.Literal.{Literal}
use Rattle.pl_task.specs.declared.data.Literal.TheVariants as literal
use Rattle.pl_task.specs.declared.data.Term.{Term}
use Rattle.pl_task.specs.declared.data.Term.TheVariants as term
use Rattle.pl_text.specs.Trees.{Tree, word, list, Trees, end, more, members}
use Rattle.pl_check.specs.declared.head.Head.{Head}
use Rattle.pl_check.specs.declared.head.Head.TheVariants.{Nothing, NoName, And, Not, Equals, Reserved, Name}
use Rattle.pl_check.specs.Elements.{elements, head_word}
use Rattle.pl_check.specs.Terms.{Scope, head_of, term_of}
use Rattle.pl_check.specs.Conditions.{by_head}

-- the terms among forms
abbrev pub terms_of : Scope → List Tree → List Term
terms_of scope forms = filter_map (term_of scope) forms

-- the atom that a list of these elements is: its predicate, and its terms
abbrev pub lifted_of : Scope → List Tree → Lifted
lifted_of scope forms = record {
  predicate = unwrap_or (number_among scope.known.predicates (head_word scope.text forms)) 0;
  terms = terms_of scope (drop 1 forms);
}

-- the equality of two terms
abbrev pub equality_of : List Term → List Literal
equality_of [] = []
equality_of (a ∷ []) = []
equality_of (a ∷ b ∷ []) = literal.Equal a b ∷ []
equality_of (a ∷ b ∷ c ∷ rest) = []

-- the atom or the equality that a list of these elements is, by its head
abbrev pub basic_literal_by : Head → Scope → List Tree → List Literal
basic_literal_by Nothing scope forms = []
basic_literal_by NoName scope forms = []
basic_literal_by And scope forms = []
basic_literal_by Not scope forms = []
basic_literal_by Reserved scope forms = []
basic_literal_by Equals scope forms = equality_of (terms_of scope (drop 1 forms))
basic_literal_by Name scope forms = literal.Atom (lifted_of scope forms) ∷ []

unfoldable pub basic_literal : Scope → Tree → List Literal
basic_literal scope tree = basic_literal_by (head_of scope.text (elements tree)) scope (elements tree)

-- the literal that is true where this one is false
abbrev pub negated : Literal → Literal
negated (literal.Atom atom) = literal.NotAtom atom
negated (literal.NotAtom atom) = literal.Atom atom
negated (literal.Equal a b) = literal.NotEqual a b
negated (literal.NotEqual a b) = literal.Equal a b

abbrev mutual
  -- the literals of a condition or an effect
  pub literals_of : Scope → Tree → List Literal
  literals_of scope (word span) = []
  literals_of scope (list span end) = []
  literals_of scope (list span (more head rest)) =
      by_head (head_of scope.text (head ∷ members rest))
      (conjuncts_literals scope rest)
      (map negated (flat_map (basic_literal scope) (members rest)))
      (basic_literal scope (list span (more head rest)))

  pub conjuncts_literals : Scope → Trees → List Literal
  conjuncts_literals scope end = []
  conjuncts_literals scope (more tree rest) = literals_of scope tree ++ conjuncts_literals scope rest

-- the atom that an effect adds by a literal
abbrev pub added : Literal → Option Lifted
added (literal.Atom atom) = Some atom
added (literal.NotAtom atom) = None
added (literal.Equal a b) = None
added (literal.NotEqual a b) = None

-- the atom that an effect deletes by a literal
abbrev pub deleted : Literal → Option Lifted
deleted (literal.Atom atom) = None
deleted (literal.NotAtom atom) = Some atom
deleted (literal.Equal a b) = None
deleted (literal.NotEqual a b) = None

-- the object that a term is
abbrev pub object_of : Term → Option ℕ
object_of (term.Parameter number) = None
object_of (term.Object number) = Some number

-- an atom without parameters as a ground atom
abbrev pub ground : Lifted → Atom
ground lifted = record { predicate = lifted.predicate; objects = filter_map object_of lifted.terms }

-- the ground atom that a form without variables is
abbrev pub ground_atom : Scope → Tree → Atom
ground_atom scope tree = ground (lifted_of scope (elements tree))

-- what a literal wants of a goal state
abbrev pub wanted : Literal → Option GoalLiteral
wanted (literal.Atom atom) = Some (record { atom = ground atom; wanted = true })
wanted (literal.NotAtom atom) = Some (record { atom = ground atom; wanted = false })
wanted (literal.Equal a b) = None
wanted (literal.NotEqual a b) = None
