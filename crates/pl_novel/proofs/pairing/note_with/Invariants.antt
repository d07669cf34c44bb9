use Rattle.std.proofs.Common.{◌≡◌, map, take}
use Rattle.pl_novel.specs.Keys.{pair_of, with_all}
use Rattle.pl_novel.proofs.pairing.note_with.Given as goal

abbrev pub invariant-loop-second : goal.invariant-loop-second
invariant-loop-second l = l.pairs.keys ≡ with_all l.fn.pairs.keys
    (map (pair_of l.first) (take l.second-index l.others))
