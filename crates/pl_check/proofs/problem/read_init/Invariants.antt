use Rattle.std.proofs.Common.{◌≡◌, ◌++◌, length, map, false}
use Rattle.std.specs.List.{flat_map}
use Rattle.pl_check.specs.Elements.{trees}
use Rattle.pl_check.specs.FaultLists.{first}
use Rattle.pl_check.specs.Literals.{ground_atom}
use Rattle.pl_check.specs.Reading.{scope_in}
use Rattle.pl_check.specs.Terms.{basic_faults}
use Rattle.pl_check.proofs.problem.read_init.Given as goal

abbrev pub invariant-loop-form : goal.invariant-loop-form
invariant-loop-form l = record {
  count : length l.form-iterator.rest.items ≡ l.form-iterator.rest.len;
  faults : first (flat_map (basic_faults (scope_in l.scope) false) (trees l.form-iterator.rest.items))
      ≡ first (flat_map (basic_faults (scope_in l.scope) false) (trees l.fn.forms.items));
  values : l.atoms.items ++ map (ground_atom (scope_in l.scope)) (trees l.form-iterator.rest.items)
      ≡ l.initial.atoms.items ++ map (ground_atom (scope_in l.scope)) (trees l.fn.forms.items);
}
