-- What the values of a row are looked up in: the rows of a table, or the keys of an index.
use Rattle.std.specs.Prelude.{ℕ, List, map, take}
use Rattle.pl_join.specs.declared.lookup.Lookup.{Lookup}
use Rattle.pl_join.specs.declared.lookup.Lookup.TheVariants.{Rows, Keys}

-- the lists of values that are found
abbrev pub keys_of : Lookup → List (List ℕ)
keys_of (Rows table) = table.now.rows
keys_of (Keys index) = map (take index.now.width) index.now.table.rows

-- how many values each of them has
abbrev pub key_width : Lookup → ℕ
key_width (Rows table) = table.now.arity
key_width (Keys index) = index.now.width
