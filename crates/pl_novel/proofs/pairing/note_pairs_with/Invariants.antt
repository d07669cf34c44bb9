use Rattle.std.proofs.Common.{◌≡◌, drop}
use Rattle.pl_novel.specs.Keys.{pairs_with, with_all, Extends}
use Rattle.pl_novel.proofs.pairing.note_pairs_with.Given as goal

abbrev pub invariant-loop-number : goal.invariant-loop-number
invariant-loop-number l = record {
  rest : with_all l.pairs.keys (pairs_with l.numbers (drop l.number-index l.added)) ≡ with_all l.fn.pairs.keys
      (pairs_with l.numbers l.added);
  extends : Extends l.fn.pairs.keys l.pairs.keys;
}
