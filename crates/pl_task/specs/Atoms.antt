-- Ground atoms as lists of numbers.
use Rattle.std.specs.Prelude.{ℕ, List}
use Rattle.pl_task.specs.declared.data.Atom.{Atom}

-- the atom of a predicate with these objects
abbrev pub atom_of : ℕ → List ℕ → Atom
atom_of predicate objects = record { predicate = predicate; objects = objects }
