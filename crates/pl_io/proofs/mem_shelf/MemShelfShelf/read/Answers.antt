use Rattle.std.proofs.Common.{◌≡◌, ◌++◌, ◌∙◌, ℕ, List, Some, length, take, drop, sym, ap, arith, length-take}
use Rattle.std.proofs.Common.{length-drop, length-append}
use Rattle.std.specs.Prelude.{Option}
use Rattle.std.proofs.lemmas.List.{take_at}
use Rattle.pl_io.specs.declared.mem_shelf.MemShelf.{MemShelf}
use Rattle.pl_io.specs.Outside.{left_of}
use Rattle.pl_io.specs.MemShelf.{files_of, current_of, place_of}
use Rattle.pl_io.proofs.Places.{Consumes-left_of, IsAtEnd-left_of}
use Rattle.pl_io.proofs.mem_shelf.MemShelfShelf.read.Goals as goal

-- what the file at hand has left
abbrev left_in : MemShelf → Option (List ℕ)
left_in shelf = left_of (Some (files_of shelf)) (current_of shelf) (place_of shelf)

pub returns-clause-bytes : goal.returns-clause-bytes
returns-clause-bytes c =
    let shelf = c.fails.new.self in
    let count = c.min-count.result in
    let left = c.left-left.result.now in
    let before : left_in c.args.self.now ≡ Some left = sym (ap left_in c.fails.ensures.same) ∙
    c.left-left.ensures in
    let full : length c.copy_from_slice.new.self ≡ count =
    omega (arith, c.copy_from_slice.ensures.len, c.min-count.ensures, c.min.ensures, length-take {A = ℕ}) in
    let given : take count (c.copy_from_slice.new.self ++ drop count c.args.buffer.now) ≡ take count left =
    take_at _ _ count full ∙ c.copy_from_slice.ensures.after in (
      Consumes-left_of (left_in c.args.self.now) (Some (files_of shelf)) (current_of shelf)
          (place_of shelf) count left _
          before c.left-left.ensures given,
      λ none room.
          let nothing : length left ≡ 0 = omega (
            arith,
            none,
            room,
            full,
            c.min-count.ensures,
            c.min.ensures,
            c.fails.new.self.some,
            length-append {A = ℕ},
            length-drop {A = ℕ},
          ) in
          IsAtEnd-left_of (Some (files_of shelf)) (current_of shelf) (place_of shelf) count left
          c.left-left.ensures nothing,
    )
