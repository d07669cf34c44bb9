use Rattle.std.proofs.Common.{◌≡◌, ◌≤◌, ◌+◌, ◌++◌, false, filter, map, length, drop}
use Rattle.pl_names.specs.Names.{texts}
use Rattle.pl_check.specs.Elements.{trees, word_of}
use Rattle.pl_check.specs.TypedLists as spec
use Rattle.pl_check.proofs.items.add_items.Given as goal

abbrev pub invariant-loop-form : goal.invariant-loop-form
invariant-loop-form l =
    (texts l.names.items ++
    filter (spec.is_item l.role)
    (map (word_of l.text) (spec.items l.text l.after_dash (trees (drop l.form-index l.forms))))
    ≡ texts l.initial.names.items ++
    filter (spec.is_item l.role) (map (word_of l.text) (spec.items l.text false (trees l.forms)))) ×
    (length l.names.items ≤ length l.initial.names.items + l.form-index)
