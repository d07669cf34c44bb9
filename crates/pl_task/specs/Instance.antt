-- A step as contracts see it: an instance of a schema.
use Rattle.std.specs.Prelude.{ℕ, List, take}

-- the number of a schema, and the number of an object for each of its parameters
pub record Instance : Type 0 where
  pub schema : ℕ
  pub args : List ℕ

-- what a mark keeps: a schema, how many of the numbers count, and the numbers
pub record Kept : Type 0 where
  pub schema : ℕ
  pub count : ℕ
  pub numbers : List ℕ

-- the step that a mark stands for
abbrev pub instance_of : Kept → Instance
instance_of k = record { schema = k.schema; args = take k.count k.numbers }
