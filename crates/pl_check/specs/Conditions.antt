-- Conditions and effects: conjunctions of literals, nested as one likes.
use Rattle.std.specs.Prelude.{◌≡◌, ℕ, Bool, true, false, not, cond, ◌==◌, ◌+◌, ◌-◌, nat_le, Option, Some}
use Rattle.std.specs.Prelude.{None, List, [], ◌∷◌, ◌++◌, length, drop, nat_lt}
use Rattle.std.specs.List.{flat_map}
use Rattle.pl_text.specs.Trees.{Tree, word, list, Trees, end, more, members}
use Rattle.pl_check.specs.declared.fault.FaultKind.TheVariants as kind
use Rattle.pl_check.specs.declared.reading.Fault.{Fault}
use Rattle.pl_check.specs.declared.head.Head.{Head}
use Rattle.pl_check.specs.declared.head.Head.TheVariants.{Nothing, NoName, And, Not, Equals, Reserved, Name}
use Rattle.pl_check.specs.Elements.{place, is_list, elements}
use Rattle.pl_check.specs.FaultLists.{fault_if, or_inside}
use Rattle.pl_check.specs.Terms.{Scope, head_of, basic_by, basic_faults, terms_faults}

-- The faults, by its head, of a list of these elements itself that should be a condition, or an effect where
-- equalities aren't allowed.
abbrev pub condition_by : Head → Scope → Bool → ℕ → List Tree → List Fault
condition_by Nothing scope equality at forms = []
condition_by And scope equality at forms = []
condition_by Not scope equality at forms = fault_if (not (length (drop 1 forms) == 1)) at kind.BadForm
condition_by NoName scope equality at forms = basic_by NoName scope equality at forms
condition_by Equals scope equality at forms = basic_by Equals scope equality at forms
condition_by Reserved scope equality at forms = basic_by Reserved scope equality at forms
condition_by Name scope equality at forms = basic_by Name scope equality at forms

-- the faults of a form itself that should be a condition or an effect
unfoldable pub condition_own : Scope → Bool → Tree → List Fault
condition_own scope equality tree =
    cond (is_list tree)
    (condition_by (head_of scope.text (elements tree)) scope equality (place tree) (elements tree))
    (fault_if true (place tree) kind.BadForm)

-- what stands inside a list, by its head: conditions after `and`, an atom or equality after `not`, terms
-- after others
abbrev pub by_head : {A : Type 0} → Head → A → A → A → A
by_head And conjuncts negated terms = conjuncts
by_head Not conjuncts negated terms = negated
by_head Nothing conjuncts negated terms = terms
by_head NoName conjuncts negated terms = terms
by_head Equals conjuncts negated terms = terms
by_head Reserved conjuncts negated terms = terms
by_head Name conjuncts negated terms = terms

abbrev mutual
  -- the faults of a condition, or of an effect where equalities aren't allowed
  pub condition_faults : Scope → Bool → Tree → List Fault
  condition_faults scope equality (word span) = condition_own scope equality (word span)
  condition_faults scope equality (list span end) = condition_own scope equality (list span end)
  condition_faults scope equality (list span (more head rest)) =
      or_inside (condition_own scope equality (list span (more head rest)))
      (by_head (head_of scope.text (head ∷ members rest))
      (conjuncts_faults scope equality rest)
      (flat_map (basic_faults scope equality) (members rest))
      (terms_faults scope (members rest)))

  -- the faults of the elements of a conjunction
  pub conjuncts_faults : Scope → Bool → Trees → List Fault
  conjuncts_faults scope equality end = []
  conjuncts_faults scope equality (more tree rest) =
      condition_faults scope equality tree ++ conjuncts_faults scope equality rest

-- whether conditions stand after this head, or one negated condition
unfoldable pub is_connective : Head → Bool
is_connective Nothing = false
is_connective NoName = false
is_connective And = true
is_connective Not = true
is_connective Equals = false
is_connective Reserved = false
is_connective Name = false

-- whether this is the head of an atom or an equality
unfoldable pub is_basic : Head → Bool
is_basic Nothing = false
is_basic NoName = false
is_basic And = false
is_basic Not = false
is_basic Equals = true
is_basic Reserved = false
is_basic Name = true

abbrev mutual
  -- The number of atoms and equalities of a condition, whatever faults stand in them: lists with the head `=`
  -- or a name that isn't reserved, the value itself or reached from it through `and` and `not` alone.
  pub counted : List ℕ → Tree → ℕ
  counted text (word span) = 0
  counted text (list span end) = 0
  counted text (list span (more head rest)) =
      cond (is_connective (head_of text (head ∷ members rest))) (counted_all text rest)
      (cond (is_basic (head_of text (head ∷ members rest))) 1 0)

  pub counted_all : List ℕ → Trees → ℕ
  counted_all text end = 0
  counted_all text (more tree rest) = counted text tree + counted_all text rest

-- what is left of a number when another is taken from it, if it is as large
abbrev pub left_of : ℕ → ℕ → Option ℕ
left_of budget count = cond (nat_le count budget) (Some (budget - count)) None

-- the faults of a precondition; where it has too many atoms and equalities, nothing inside it is looked at
unfoldable pub precondition_faults : Scope → Tree → List Fault
precondition_faults scope tree =
    cond (nat_lt 1024 (counted scope.text tree))
    (condition_own scope true tree ++ fault_if true (place tree) kind.TooMany)
    (condition_faults scope true tree)

-- the faults of an effect, or of a goal, which is tested as an effect without parameters
abbrev pub effect_faults : Scope → Tree → List Fault
effect_faults scope tree = condition_faults scope false tree
