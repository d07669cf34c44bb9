use Rattle.std.proofs.Common.{◌≡◌, ◌++◌, drop, map, length}
use Rattle.pl_names.specs.Names.{texts}
use Rattle.pl_task.specs.declared.data.ObjectDef.{ObjectDef}
use Rattle.pl_check.proofs.plan_lines.names_of_objects.Given as goal

abbrev pub invariant-loop-object : goal.invariant-loop-object
invariant-loop-object l =
    (texts l.list.items ++ map (λ (o : ObjectDef). o.name) (drop l.object-index l.object-items)
    ≡ map (λ (o : ObjectDef). o.name) l.object-items) ×
    (length l.list.items ≡ l.object-index)
