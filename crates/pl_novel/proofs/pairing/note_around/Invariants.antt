use Rattle.std.proofs.Common.{◌≡◌, drop}
use Rattle.pl_novel.specs.Keys.{pairs_around, with_all, Extends}
use Rattle.pl_novel.proofs.pairing.note_around.Given as goal

abbrev pub invariant-loop-place : goal.invariant-loop-place
invariant-loop-place l = record {
  rest : with_all l.pairs.keys (pairs_around (drop l.place l.numbers) l.number) ≡ with_all l.fn.pairs.keys
      (pairs_around l.numbers l.number);
  extends : Extends l.fn.pairs.keys l.pairs.keys;
}
