-- Relations that are looked up by the values of their first classes.
use Rattle.std.specs.Prelude.{◌≡◌, ◌≤◌, ℕ, List, length, take, drop, All, Contains}
use Rattle.pl_rows.specs.Rows.{IndexedRows}
use Rattle.pl_join.specs.Relation.{ClassRows, IsRelation}

-- a relation with an index as its callers see it: the relation, and how many of its first classes are its key
pub record KeyedRows : Type 0 where
  pub relation : ClassRows
  pub width : ℕ

-- the classes by whose values the rows are looked up, and the others
abbrev pub key_of : KeyedRows → List ℕ
key_of keyed = take keyed.width keyed.relation.classes

abbrev pub rest_of : KeyedRows → List ℕ
rest_of keyed = drop keyed.width keyed.relation.classes

-- the key has just those of the relation's classes that are among the others
pub record IsSharedKey (keyed : KeyedRows) (others : List ℕ) : Type 0 where
  pub key : All (Contains others) (key_of keyed)
  pub rest : (c : ℕ) → Contains (rest_of keyed) c → Contains others c → ⊥

-- the relation of some classes and the rows of an index
abbrev pub relation_of : List ℕ → IndexedRows → ClassRows
relation_of classes indexed = record { classes = classes; rows = indexed.table.rows }

-- what the fields of a keyed relation keep
pub record IsKeyedBy (classes : List ℕ) (indexed : IndexedRows) : Type 0 where
  pub arity : indexed.table.arity ≡ length classes
  pub width : indexed.width ≤ length classes
  pub relation : IsRelation (relation_of classes indexed)
