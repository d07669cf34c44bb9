use Rattle.std.proofs.Common.{◌∙◌, ◌<◌, length, arith, Result, Ok, Err, OnErr}
use Rattle.pl_io.proofs.Parts.{Appends-joined, AppendsFront-joined, joined-empty}
use Rattle.pl_io.proofs.putting.put_pieces.Goals as goal
use Rattle.pl_io.proofs.Gathering.{on_err}

pub returns-in_err-put_all-clause-front : goal.returns-in_err-put_all-clause-front
returns-in_err-put_all-clause-front g c =
    let here : c.loop-piece.piece-index < length c.args.pieces.now = omega (arith, c.loop-piece-test.true) in
    on_err c.from_residual.result
    (AppendsFront-joined _ _ _ c.args.pieces.now _ _ here c.loop-piece.invariant.written
    c.in_err-put_all.ensures.front)

pub returns-in_err-put_all-clause-empty : goal.returns-in_err-put_all-clause-empty
returns-in_err-put_all-clause-empty g c none =
    let here : c.loop-piece.piece-index < length c.args.pieces.now = omega (arith, c.loop-piece-test.true) in
    let answer = (c.in_err-put_all.ensures.empty (joined-empty c.args.pieces.now _ _ here none)).0 in
    absurd (cc answer)

pub loop-piece-preserved : goal.loop-piece-preserved
loop-piece-preserved g c =
    let here : c.loop-piece.piece-index < length c.args.pieces.now = omega (arith, c.loop-piece-test.true) in
    let so_far = c.loop-piece.invariant in
    let piece = c.in_ok-put_all.ensures in
    record {
      written = Appends-joined _ _ _ c.args.pieces.now _ _ here so_far.written piece.all;
      told = so_far.told ∙ piece.told;
      later = omega (arith, so_far.later, piece.cause.later);
      empty = λ none. (piece.empty (joined-empty c.args.pieces.now _ _ here none)).1 ∙ so_far.empty none;
    }
