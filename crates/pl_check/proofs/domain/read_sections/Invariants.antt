use Rattle.std.proofs.Common.{◌≡◌, ◌++◌, [], drop, take, map, length}
use Rattle.std.specs.Prelude.{codes}
use Rattle.pl_names.specs.Names.{texts}
use Rattle.pl_check.specs.Actions.{action_name}
use Rattle.pl_check.specs.declared.role.FileRole.TheVariants as role
use Rattle.pl_check.specs.Elements.{trees}
use Rattle.pl_check.specs.FaultLists.{first}
use Rattle.pl_check.specs.Known.{sections_of}
use Rattle.pl_check.specs.Sections as spec
use Rattle.pl_check.specs.Stated.{stated_schema}
use Rattle.pl_check.proofs.domain.read_sections.Given as goal

-- the faults of what is left decide, its schemas are still to come, and the names of its actions follow
abbrev pub invariant-loop-section : goal.invariant-loop-section
invariant-loop-section l = record {
  faults : first (spec.sections_faults role.Domain l.text l.known (record { keys = []; actions = [] })
      (trees l.sections)) ≡
      first (spec.sections_faults role.Domain l.text l.known
      (record { keys = texts l.earlier.items; actions = take (length l.schemas.items) l.actions })
      (trees (drop l.section-index l.sections)));
  schemas : l.schemas.items ++
      map (stated_schema l.text l.known)
      (sections_of l.text (codes ":action") (trees (drop l.section-index l.sections)))
      ≡ map (stated_schema l.text l.known) (sections_of l.text (codes ":action") (trees l.sections));
  names : drop (length l.schemas.items) l.actions ≡
      map (action_name l.text) (sections_of l.text (codes ":action")
      (trees (drop l.section-index l.sections)));
}
