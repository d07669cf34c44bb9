use Rattle.std.proofs.Common.{◌≡◌, drop}
use Rattle.pl_novel.specs.Keys.{pair_of, pairs_by, with_all, Extends}
use Rattle.pl_novel.proofs.pairing.note_all.Given as goal

abbrev pub invariant-loop-i : goal.invariant-loop-i
invariant-loop-i l = record {
  rest : with_all l.pairs.keys (pairs_by pair_of (drop l.i l.numbers)) ≡ with_all l.fn.pairs.keys
      (pairs_by pair_of l.numbers);
  extends : Extends l.fn.pairs.keys l.pairs.keys;
}
