use Rattle.std.proofs.Common.{◌≡◌, ◌++◌, ◌+◌, codes}
use Rattle.std.specs.List.{flat_map}
use Rattle.pl_task.specs.Types.{numbers_below}
use Rattle.pl_make.specs.Texts.{atom_line, relation_name}
use Rattle.pl_make.proofs.wide.put_pairs.Given as goal

abbrev pub invariant-loop-i : goal.invariant-loop-i
invariant-loop-i l =
    l.text.items ≡ l.fn.text.items
    ++ flat_map (λ i. flat_map (λ j. atom_line (relation_name l.k) (codes "o") (l.left + i) (l.right + j))
    (numbers_below l.n)) (numbers_below l.i)
