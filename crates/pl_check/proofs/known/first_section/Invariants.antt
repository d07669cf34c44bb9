use Rattle.std.proofs.Common.{◌≡◌, drop}
use Rattle.pl_check.specs.Elements.{trees}
use Rattle.pl_check.specs.Known.{first_section}
use Rattle.pl_check.proofs.known.first_section.Given as goal

abbrev pub invariant-loop-section : goal.invariant-loop-section
invariant-loop-section l =
    first_section l.text l.key (trees (drop l.section-index l.sections)) ≡ first_section l.text
    l.key (trees l.sections)
