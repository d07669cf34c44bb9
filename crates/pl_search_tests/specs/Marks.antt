-- A small task for the tests: three marks, each with a schema that sets it.
use Rattle.std.specs.Prelude.{ℕ, false, List, [], ◌∷◌}
use Rattle.pl_task.specs.declared.data.Atom.{Atom}
use Rattle.pl_task.specs.declared.data.Lifted.{Lifted}
use Rattle.pl_task.specs.declared.data.PredicateDef.{PredicateDef}
use Rattle.pl_task.specs.declared.data.Schema.{Schema}

abbrev pub mark : ℕ → Lifted
mark p = record { predicate = p; terms = [] }

abbrev pub mark_set : ℕ → Atom
mark_set p = record { predicate = p; objects = [] }

abbrev pub mark_definition : PredicateDef
mark_definition = record { name = []; arity = 0; is_static = false }

abbrev pub mark_definitions : List PredicateDef
mark_definitions = mark_definition ∷ mark_definition ∷ mark_definition ∷ []

abbrev pub make : ℕ → Schema
make p = record { name = []; parameters = []; condition = []; delete = []; add = mark p ∷ [] }

abbrev pub makers : List Schema
makers = make 0 ∷ make 1 ∷ make 2 ∷ []
