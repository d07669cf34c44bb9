use Rattle.std.proofs.Common.{◌≡◌, drop}
use Rattle.std.specs.List.{list_all}
use Rattle.pl_normal.specs.Recipes.{is_fixed_edge}
use Rattle.pl_normal.proofs.fixed.are_fixed_edges.Given as goal

abbrev pub invariant-loop-number : goal.invariant-loop-number
invariant-loop-number l =
    list_all (is_fixed_edge l.query.task.now l.query.schema.now) l.numbers
    ≡ list_all (is_fixed_edge l.query.task.now l.query.schema.now) (drop l.number-index l.numbers)
