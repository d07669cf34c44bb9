use Rattle.std.proofs.Common.{◌≡◌, take, map, slice_index}
use Rattle.pl_cursor.proofs.position.write_key.Given as goal

abbrev pub invariant-loop-i : goal.invariant-loop-i
invariant-loop-i l = take l.i l.key ≡ map (λ c. slice_index l.answer (slice_index l.places c))
    (take l.i l.classes)
