-- A small task for the tests: lamps that can be lit, and lights that can be passed on.
use Rattle.std.specs.Prelude.{false, [], ◌∷◌}
use Rattle.pl_task.specs.declared.data.Lifted.{Lifted}
use Rattle.pl_task.specs.declared.data.Literal.TheVariants as literal
use Rattle.pl_task.specs.declared.data.Parameter.{Parameter}
use Rattle.pl_task.specs.declared.data.PredicateDef.{PredicateDef}
use Rattle.pl_task.specs.declared.data.Schema.{Schema}
use Rattle.pl_task.specs.declared.data.Term.{Term}
use Rattle.pl_task.specs.declared.data.Term.TheVariants as term

abbrev pub on : Term → Lifted
on t = record { predicate = 0; terms = t ∷ [] }

abbrev pub on_definition : PredicateDef
on_definition = record { name = []; arity = 1; is_static = false }

abbrev pub lamp : Parameter
lamp = record { name = []; types = 0 ∷ [] }

-- any lamp is lit
abbrev pub light : Schema
light = record {
  name = [];
  parameters = lamp ∷ [];
  condition = [];
  delete = [];
  add = on (term.Parameter 0) ∷ [];
}

-- a lit lamp goes out, and another one is lit
abbrev pub pass : Schema
pass = record {
  name = [];
  parameters = lamp ∷ lamp ∷ [];
  condition = literal.Atom (on (term.Parameter 0)) ∷ literal.NotEqual (term.Parameter 0)
      (term.Parameter 1) ∷ [];
  delete = on (term.Parameter 0) ∷ [];
  add = on (term.Parameter 1) ∷ [];
}
