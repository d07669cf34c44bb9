use Rattle.std.proofs.Common.{◌≡◌, ◌++◌, map, drop}
use Rattle.pl_names.specs.Names.{first_appearances}
use Rattle.pl_check.specs.Elements.{trees, word_of}
use Rattle.pl_check.specs.TypedLists as spec
use Rattle.pl_check.proofs.items.add_numbers.Given as goal

abbrev pub invariant-loop-form : goal.invariant-loop-form
invariant-loop-form l =
    l.numbers.items ++ spec.type_numbers (first_appearances l.types)
    (map (word_of l.text) (trees (drop l.form-index l.forms)))
    ≡ l.initial.numbers.items ++ spec.type_numbers (first_appearances l.types)
    (map (word_of l.text) (trees l.forms))
