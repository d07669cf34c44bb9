use Rattle.std.proofs.Common.{◌≡◌, ◌++◌}
use Rattle.std.specs.List.{flat_map}
use Rattle.pl_task.specs.Types.{numbers_below}
use Rattle.pl_make.specs.Texts.{links_of, seed_after}
use Rattle.pl_make.proofs.hop.put_links.Given as goal

abbrev pub invariant-loop-i : goal.invariant-loop-i
invariant-loop-i l =
    (l.text.items ≡ l.fn.text.items ++ flat_map (links_of l.n l.start) (numbers_below l.i)) ×
    (l.seed ≡ seed_after l.start l.i)
