use Rattle.std.proofs.Common.{◌<◌, List, ℕ, length, arith}
use denote.Ref.{Bor}
use Rattle.pl_io.proofs.Gathering.{on_err, sent_to_next, front_past}
use Rattle.pl_io.specs.Blocks.{held_of}
use Rattle.pl_io.proofs.blocks.Blocks.put_pieces.Goals as goal

abbrev bytes_of : Bor (List ℕ) → List ℕ
bytes_of piece = piece.now

pub returns-in_err-put-clause-front : goal.returns-in_err-put-clause-front
returns-in_err-put-clause-front g c =
    let here : c.loop-piece.piece-index < length c.args.pieces.now = omega (arith, c.loop-piece-test.true) in
    on_err c.from_residual.result
    (front_past _ _ _ bytes_of c.args.pieces.now _ _ (held_of c.args.self.now) _ here
    c.loop-piece.invariant.taken
    c.in_err-put.ensures.front)

pub loop-piece-preserved : goal.loop-piece-preserved
loop-piece-preserved g c =
    let here : c.loop-piece.piece-index < length c.args.pieces.now = omega (arith, c.loop-piece-test.true) in
    let so_far = c.loop-piece.invariant in
    let piece = c.in_ok-put.ensures in
    record {
      taken = sent_to_next _ _ _ bytes_of c.args.pieces.now _ _ (held_of c.args.self.now) _ _
          here so_far.taken piece.all;
      later = omega (arith, so_far.later, piece.cause.later);
    }
