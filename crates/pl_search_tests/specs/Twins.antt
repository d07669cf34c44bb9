-- A small task for the tests of hopeless states: its schema names one object twice, of a type that none has.
use Rattle.std.specs.Prelude.{false, true, List, [], ◌∷◌}
use Rattle.pl_task.specs.declared.data.Lifted.{Lifted}
use Rattle.pl_task.specs.declared.data.Parameter.{Parameter}
use Rattle.pl_task.specs.declared.data.PredicateDef.{PredicateDef}
use Rattle.pl_task.specs.declared.data.Schema.{Schema}
use Rattle.pl_task.specs.declared.data.Term.TheVariants as term
use Rattle.pl_task.specs.declared.data.TypeDef.{TypeDef}

abbrev pub bare : TypeDef
bare = record { name = []; parents = [] }

abbrev pub pair_definition : PredicateDef
pair_definition = record { name = []; arity = 2; is_static = false }

abbrev pub link_definition : PredicateDef
link_definition = record { name = []; arity = 2; is_static = true }

abbrev pub mark_definition : PredicateDef
mark_definition = record { name = []; arity = 1; is_static = false }

abbrev pub twin_definitions : List PredicateDef
twin_definitions = pair_definition ∷ link_definition ∷ mark_definition ∷ []

-- a pair of one object with itself
abbrev pub twice : Lifted
twice = record { predicate = 0; terms = term.Parameter 0 ∷ term.Parameter 0 ∷ [] }

abbrev pub marked : Lifted
marked = record { predicate = 2; terms = term.Parameter 0 ∷ [] }

abbrev pub nobody : Parameter
nobody = record { name = []; types = 1 ∷ [] }

abbrev pub twin : Schema
twin = record {
  name = [];
  parameters = nobody ∷ [];
  condition = [];
  delete = twice ∷ [];
  add =
      twice ∷ marked ∷ [];
}
