use Rattle.std.proofs.Common.{◌≡◌, ◌++◌, take}
use Rattle.std.specs.List.{flat_map}
use Rattle.pl_normal.specs.Edges.{type_edges, literal_edge}
use Rattle.pl_normal.proofs.edges.edges.Given as goal

abbrev pub invariant-loop-literal : goal.invariant-loop-literal
invariant-loop-literal l = l.edges.items ≡ type_edges l.slots
    ++ flat_map (literal_edge l.slots) (take l.literal-index l.condition)
