use Rattle.std.proofs.Common.{◌≡◌, ℕ, ◌<◌, Some, slice_get}
use Rattle.pl_task.specs.declared.data.Term.TheVariants as term
use Rattle.pl_hooks.proofs.fixed.has_object.Given as goal

abbrev pub invariant-loop-j : goal.invariant-loop-j
invariant-loop-j l = (k : ℕ) → k < l.j → slice_get l.terms k ≡ Some (term.Parameter l.n)
    → slice_get l.objects k ≡ Some l.object
