use Rattle.std.proofs.Common.{◌≡◌, drop}
use Rattle.std.specs.List.{list_all}
use Rattle.pl_normal.specs.Recipes.{has_no_table, is_fixed_for}
use Rattle.pl_normal.proofs.fixed.are_fixed_for.Given as goal

abbrev pub invariant-loop-placed : goal.invariant-loop-placed
invariant-loop-placed l =
    list_all (is_fixed_for (has_no_table l.statics) l.number) l.local
    ≡ list_all (is_fixed_for (has_no_table l.statics) l.number) (drop l.placed-index l.local)
