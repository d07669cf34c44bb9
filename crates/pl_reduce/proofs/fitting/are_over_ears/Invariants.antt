use Rattle.std.proofs.Common.{◌<◌, ℕ}
use Rattle.pl_reduce.specs.Plan.{relation_at}
use Rattle.pl_reduce.specs.Recipes.{IsOverEar}
use Rattle.pl_reduce.proofs.fitting.are_over_ears.Given as goal

abbrev pub invariant-loop-ear : goal.invariant-loop-ear
invariant-loop-ear l = (k : ℕ) → k < l.ear → IsOverEar l.plan (relation_at l.rest k) k
