use Rattle.std.proofs.Common.{◌≡◌, ◌≤◌, ◌+◌, ◌*◌, take}
use Rattle.pl_normal.specs.Asked.{state_asked, source_rows}
use Rattle.pl_normal.specs.Queries.{IsSieved, edge_at}
use Rattle.pl_normal.proofs.relations.passing_rows.Given as goal

abbrev pub invariant-loop-placed : goal.invariant-loop-placed
invariant-loop-placed g l =
    IsSieved l.query.task.now l.query.schema.now (state_asked l.query) (edge_at l.form.edges l.number)
    l.number (take l.placed-index l.local) l.relation
    × (l.initial.steps ≤ l.steps)
    × (l.steps ≤ l.initial.steps + l.placed-index * (2 * source_rows l.query l.number))
    × (l.relation.classes ≡ l.initial.relation.classes)
