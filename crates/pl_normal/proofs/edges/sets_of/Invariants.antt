use Rattle.std.proofs.Common.{◌≡◌, map, take}
use Rattle.pl_normal.specs.declared.form.Edge.{Edge}
use Rattle.pl_normal.proofs.edges.sets_of.Given as goal

abbrev pub invariant-loop-edge : goal.invariant-loop-edge
invariant-loop-edge l = l.sets.items ≡ map (λ (edge : Edge). edge.classes) (take l.edge-index l.edges)
