use Rattle.std.proofs.Common.{◌≤◌, ◌+◌, map, take}
use Rattle.std.specs.List.{sum_by}
use Rattle.pl_normal.specs.Asked.{state_asked, source_rows}
use Rattle.pl_normal.specs.Queries.{sieved_probes}
use Rattle.pl_normal.specs.Recipes.{AreOfShare}
use Rattle.pl_normal.proofs.nodes.node_relations.Given as goal

abbrev pub invariant-loop-ear : goal.invariant-loop-ear
invariant-loop-ear g l =
    AreOfShare l.query.task.now l.query.schema.now (state_asked l.query) l.share (l.ear-index + 1)
    l.nodes.items
    × (l.initial.steps ≤ l.steps)
    × (l.steps ≤ l.initial.steps + sieved_probes l.form
    (sum_by (source_rows l.query) (map (λ ear. ear.edge) (take l.ear-index l.ears))))
