use Rattle.std.proofs.Common.{◌≡◌, ◌++◌, drop, map, length}
use Rattle.pl_names.specs.Names.{texts}
use Rattle.pl_task.specs.declared.data.Schema.{Schema}
use Rattle.pl_check.proofs.plan_lines.names_of_actions.Given as goal

abbrev pub invariant-loop-schema : goal.invariant-loop-schema
invariant-loop-schema l =
    (texts l.list.items ++ map (λ (s : Schema). s.name) (drop l.schema-index l.schema-items)
    ≡ map (λ (s : Schema). s.name) l.schema-items) ×
    (length l.list.items ≡ l.schema-index)
