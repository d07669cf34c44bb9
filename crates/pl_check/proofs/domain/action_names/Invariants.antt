use Rattle.std.proofs.Common.{◌≡◌, ◌≤◌, ◌++◌, length, map, drop}
use Rattle.std.specs.Prelude.{codes}
use Rattle.pl_names.specs.Names.{texts}
use Rattle.pl_check.specs.Actions.{action_name}
use Rattle.pl_check.specs.Elements.{trees}
use Rattle.pl_check.specs.Known.{sections_of}
use Rattle.pl_check.proofs.domain.action_names.Given as goal

-- the names so far, and those of what is left
abbrev pub invariant-loop-section : goal.invariant-loop-section
invariant-loop-section l = record {
  names : texts l.names.items ++
      map (action_name l.text) (sections_of l.text (codes ":action")
      (trees (drop l.section-index l.sections)))
      ≡ map (action_name l.text) (sections_of l.text (codes ":action") (trees l.sections));
  few : length l.names.items ≤ l.section-index;
}
