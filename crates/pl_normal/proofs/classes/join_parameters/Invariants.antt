use Rattle.std.proofs.Common.{◌≡◌, length, map, take}
use Rattle.std.specs.List.{range_with_len}
use Rattle.pl_normal.specs.Classes.{equalities, class_of}
use Rattle.pl_normal.proofs.classes.join_parameters.Given as goal

abbrev pub invariant-loop-literal : goal.invariant-loop-literal
invariant-loop-literal l = l.classes ≡ map (class_of (equalities (take l.literal-index l.condition)))
    (range_with_len 0 (length l.initial.classes))
