use Rattle.std.proofs.Common.{ap, ◌∙◌}
use Rattle.pl_rows.specs.Rows.{Rows}
use Rattle.pl_join.specs.Keyed.{KeyedRows}
use Rattle.pl_reduce.specs.Kept.{layout_of}
use Rattle.pl_reduce.proofs.Roots.{emptiness, all_empty}
use Rattle.pl_reduce.proofs.reduced.Reduced.is_empty.Goals as goal

pub returns-clause-empty : goal.returns-clause-empty
returns-clause-empty c =
    let rows = ap (λ (t : Rows). t.rows) c.table.ensures
    ∙ ap (λ (k : KeyedRows). k.relation.rows) c.keyed.ensures in
    rw (← c.self.view_is)
    (emptiness (layout_of c.self.inside.layout).classes c.self.inside.nodes.items c.index.result.now
    c.table.result.now
    c.is_empty.result c.self.invariant.reduced c.index.ensures rows c.is_empty.ensures)

pub returns-clause-tables : goal.returns-clause-tables
returns-clause-tables c =
    let rows = ap (λ (t : Rows). t.rows) c.table.ensures
    ∙ ap (λ (k : KeyedRows). k.relation.rows) c.keyed.ensures in
    rw (← c.self.view_is)
    (all_empty (layout_of c.self.inside.layout).classes c.self.inside.nodes.items c.index.result.now
    c.table.result.now
    c.is_empty.result c.self.invariant.reduced c.index.ensures rows c.is_empty.ensures.0)
