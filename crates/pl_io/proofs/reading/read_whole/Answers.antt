use Rattle.std.proofs.Common.{◌∙◌, arith}
use Rattle.pl_io.proofs.Parts.{Consumes-take-add}
use Rattle.pl_io.proofs.reading.read_whole.Goals as goal

pub loop-bytes-preserved : goal.loop-bytes-preserved
loop-bytes-preserved g c =
    let so_far = c.loop-bytes.invariant in
    let piece = c.in_ok-count.ensures in
    record {
      at_hand = rw c.read_piece.ensures.current so_far.at_hand;
      files = piece.files ∙ so_far.files;
      place = piece.place;
      begun = rw c.read_piece.ensures.begun so_far.begun;
      held = piece.held;
      within = piece.within;
      given = Consumes-take-add _ _ _ c.loop-bytes.bytes.items _ _ _ piece.kept so_far.given piece.given;
      later = omega (arith, so_far.later, piece.later);
    }
