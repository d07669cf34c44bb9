-- what the public contract rests on
pub mod ClassesByAppearance
pub use Rattle.pl_hyper.specs.ClassOrder
pub use Rattle.pl_join.specs.Relation
-- what the functions inside the crate promise each other
pub mod Joining
