use Rattle.std.proofs.Common.{◌≡◌, ◌-◌, ◌≤◌, [], ◌∷◌, take, vec_len}
use Rattle.std.specs.Io.KnownBytes.{Consumes}
use Rattle.pl_io.specs.Outside.{IsAtHand, BegunThen, known_content, left_in}
use Rattle.pl_io.proofs.reading.read_whole.Given as goal

-- the bytes read so far, and then what the shelf has left, are the file
abbrev pub invariant-loop-bytes : goal.invariant-loop-bytes
invariant-loop-bytes g l =
    let before = g.S.Shelf.seen l.fn.shelf in
    let shelf = g.S.Shelf.seen l.shelf in
    record {
      at_hand : IsAtHand before.files l.name shelf.current;
      files : shelf.files ≡ before.files;
      place : shelf.place ≡ l.filled;
      begun : BegunThen before.begun (l.name ∷ []) shelf.begun;
      held : l.filled ≤ vec_len l.bytes;
      within : l.filled ≤ 16777216;
      given : Consumes (known_content before.files l.name) (left_in shelf) (take l.filled l.bytes.items);
      later : before.faults ≤ shelf.faults;
    }

abbrev pub decreases-loop-bytes : goal.decreases-loop-bytes
decreases-loop-bytes g l = 16777216 - l.filled
