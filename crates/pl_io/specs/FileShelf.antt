-- What a shelf over the operating system shows of itself: nothing of its files.
use Rattle.std.specs.Prelude.{ℕ, List, [], Option, None, option_map}
use Rattle.pl_io.specs.Outside.{ShelfSeen}
use Rattle.pl_io.specs.declared.file_shelf.FileShelf.{FileShelf}

-- whether a file is at hand, with no name
abbrev pub current_of : FileShelf → Option (List ℕ)
current_of shelf = option_map (λ _. []) shelf.file

-- how many bytes of that file were given
abbrev pub place_of : FileShelf → ℕ
place_of shelf = shelf.place

-- how many calls failed
abbrev pub faults_of : FileShelf → ℕ
faults_of shelf = shelf.faults

-- it tells neither its files nor which names were begun
abbrev pub seen_of : FileShelf → ShelfSeen
seen_of shelf = record {
  files = None;
  current = current_of shelf;
  place = place_of shelf;
  begun = None;
  faults = faults_of shelf;
}
