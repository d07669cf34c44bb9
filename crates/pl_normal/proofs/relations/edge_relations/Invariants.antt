use Rattle.std.proofs.Common.{◌≤◌, take}
use Rattle.pl_normal.specs.Asked.{state_asked}
use Rattle.pl_normal.specs.Queries.{AreRelationsAt}
use Rattle.pl_normal.proofs.relations.edge_relations.Given as goal

abbrev pub invariant-loop-number : goal.invariant-loop-number
invariant-loop-number g l =
    AreRelationsAt l.query.task.now l.query.schema.now (state_asked l.query) (take l.number-index l.numbers)
    l.relations.items
    × (l.initial.steps ≤ l.steps)
