use Rattle.std.proofs.Common.{◌∙◌, ℕ, arith, length-take, length-drop}
use Rattle.pl_io.proofs.Parts.{Appends-take-add}
use Rattle.pl_io.proofs.putting.put_all.Goals as goal

pub loop-done-preserved : goal.loop-done-preserved
loop-done-preserved g c =
    let so_far = c.loop-done.invariant in
    let piece = c.in_ok-done.ensures in
    record {
      within = omega (arith, piece.within, length-take {A = ℕ}, length-drop {A = ℕ});
      written = Appends-take-add _ _ _ _ _ _ so_far.written piece.bytes;
      told = so_far.told ∙ piece.told;
      later = omega (arith, so_far.later, piece.cause.later);
      empty = λ none. absurd (omega (arith, none, c.loop-done-test.true));
    }
