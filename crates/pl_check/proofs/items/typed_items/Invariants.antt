use Rattle.std.proofs.Common.{◌≡◌, map, drop, false}
use Rattle.pl_names.specs.Names.{first_appearances}
use Rattle.pl_check.specs.Elements.{trees}
use Rattle.pl_check.specs.Reading.{numbered, items_from}
use Rattle.pl_check.specs.TypedLists as spec
use Rattle.pl_check.proofs.items.typed_items.Given as goal

abbrev pub invariant-loop-form : goal.invariant-loop-form
invariant-loop-form l =
    items_from l.text (first_appearances l.types) l.walk (trees (drop l.form-index l.forms))
    ≡ map (numbered (first_appearances l.types)) (spec.typed_items l.text false (trees l.forms))
