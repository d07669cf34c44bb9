use Rattle.std.proofs.Common.{◌≡◌, ◌++◌, length, map, [], codes}
use Rattle.std.specs.List.{flat_map}
use Rattle.pl_names.specs.Names.{texts}
use Rattle.pl_check.specs.declared.role.FileRole.TheVariants as role
use Rattle.pl_check.specs.Elements.{trees}
use Rattle.pl_check.specs.FaultLists.{first}
use Rattle.pl_check.specs.Known.{all_after}
use Rattle.pl_check.specs.Literals.{literals_of, ground_atom}
use Rattle.pl_check.specs.Sections as spec
use Rattle.pl_check.proofs.problem.read_problem_sections.Given as goal

abbrev pub invariant-loop-section : goal.invariant-loop-section
invariant-loop-section l = record {
  count : length l.section-iterator.rest.items ≡ l.section-iterator.rest.len;
  faults : first (spec.sections_faults role.Problem l.text l.known
      (record { keys = texts l.earlier.items; actions = [] })
      (trees l.section-iterator.rest.items))
      ≡ first (spec.sections_faults role.Problem l.text l.known (record { keys = []; actions = [] })
      (trees l.fn.sections.items));
  init : l.stated.init.items ++
      map (ground_atom (spec.problem_scope l.text l.known))
      (all_after l.text (codes ":init") (trees l.section-iterator.rest.items))
      ≡ map (ground_atom (spec.problem_scope l.text l.known))
      (all_after l.text (codes ":init") (trees l.fn.sections.items));
  goal : l.stated.goal.items ++
      flat_map (literals_of (spec.problem_scope l.text l.known))
      (all_after l.text (codes ":goal") (trees l.section-iterator.rest.items))
      ≡ flat_map (literals_of (spec.problem_scope l.text l.known))
      (all_after l.text (codes ":goal") (trees l.fn.sections.items));
}
