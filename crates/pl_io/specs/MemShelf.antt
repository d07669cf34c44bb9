-- What a shelf in memory shows of itself.
use Rattle.std.specs.Prelude.{◌≡◌, ℕ, List, Option, Some, option_and_then}
use Rattle.pl_io.specs.Begun.{names_in}
use Rattle.pl_io.specs.Outside.{NamedBytes, ShelfSeen}
use Rattle.pl_io.specs.Places.{name_at}
use Rattle.pl_io.specs.declared.mem_shelf.MemShelf.{MemShelf}

-- its files
abbrev pub files_of : MemShelf → List NamedBytes
files_of shelf = shelf.files.items

-- the name of the file at hand
abbrev pub current_of : MemShelf → Option (List ℕ)
current_of shelf = option_and_then (name_at shelf.files.items) shelf.current

-- how many bytes of that file were given
abbrev pub place_of : MemShelf → ℕ
place_of shelf = shelf.place

-- the names that were begun, as long as there was memory to note them
abbrev pub begun_of : MemShelf → Option (List (List ℕ))
begun_of shelf = names_in shelf.begun

-- how many calls failed
abbrev pub faults_of : MemShelf → ℕ
faults_of shelf = shelf.faults

abbrev pub seen_of : MemShelf → ShelfSeen
seen_of shelf = record {
  files = Some (files_of shelf);
  current = current_of shelf;
  place = place_of shelf;
  begun = begun_of shelf;
  faults = faults_of shelf;
}

-- how many calls were numbered
abbrev pub calls_of : MemShelf → ℕ
calls_of shelf = shelf.numbered.calls

-- the numbers of the calls that fail
abbrev pub failing_of : MemShelf → List ℕ
failing_of shelf = shelf.numbered.failing.items

-- the most bytes that a read gives
abbrev pub piece_of : MemShelf → ℕ
piece_of shelf = shelf.piece

-- the calls that fail and the most bytes of a read stay as they were
abbrev pub SameScript : MemShelf → MemShelf → Type 0
SameScript old new = (failing_of new ≡ failing_of old) × (piece_of new ≡ piece_of old)
