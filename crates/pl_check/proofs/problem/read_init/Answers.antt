use Rattle.std.proofs.Common.{length, ap, false, arith, ◌++◌, map}
use Rattle.std.specs.List.{flat_map}
use Rattle.pl_check.specs.Elements.{trees}
use Rattle.pl_check.specs.Literals.{ground_atom}
use Rattle.pl_check.specs.Reading.{scope_in}
use Rattle.pl_check.specs.Terms.{basic_faults}
use Rattle.pl_check.proofs.TakenLemmas.{taken_passed, taken_value}
use Rattle.pl_check.proofs.problem.read_init.Goals as goal

pub loop-form-preserved : goal.loop-form-preserved
loop-form-preserved c = record {
  count = (let longer = ap length c.in-Some.ensures.steps.0 in omega arith);
  faults =
      taken_passed (basic_faults (scope_in c.args.scope.now) false)
      (flat_map (basic_faults (scope_in c.args.scope.now) false) (trees c.args.forms.items))
      c.loop-form.form-iterator.rest.items c.next.new.self.rest.items c.in-Some.form c.in-Some.ensures.steps.0
      c.loop-form.invariant.faults c.in_ok-read_ground.ensures.0;
  values =
      taken_value (ground_atom (scope_in c.args.scope.now)) c.loop-form.form-iterator.rest.items
      c.next.new.self.rest.items c.in-Some.form c.in_ok-read_ground.field-0
      c.loop-form.atoms.items c.push.new.list.items
      (c.args.atoms.now.items ++ map (ground_atom (scope_in c.args.scope.now)) (trees c.args.forms.items))
      c.in-Some.ensures.steps.0 c.in_ok-read_ground.ensures.1 c.in_ok-push.ensures.ok
      c.loop-form.invariant.values;
}
