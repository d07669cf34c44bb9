-- Files by their places in a list.
use Rattle.std.specs.Prelude.{◌≡◌, ℕ, ◌<◌, List, length, Option, Some, option_map, bytes_eq, position}
use Rattle.std.specs.List.{slice_get}
use Rattle.pl_io.specs.Outside.{NamedBytes, content_of}

-- the name of the file at that place
abbrev pub name_at : List NamedBytes → ℕ → Option (List ℕ)
name_at files i = option_map (λ (file : NamedBytes). file.0) (slice_get files i)

-- the place of the first file of that name
abbrev pub first_place : List NamedBytes → List ℕ → Option ℕ
first_place files name = position (λ (file : NamedBytes). bytes_eq file.0 name) files

-- a file stands at that place, and it is the first of its name
abbrev pub IsFirstOfItsName : List NamedBytes → ℕ → Type 0
IsFirstOfItsName files i =
    (i < length files) × ((file : NamedBytes) → slice_get files i ≡ Some file →
    content_of files file.0 ≡ Some file.1)
