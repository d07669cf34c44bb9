-- what the public contracts rest on
pub mod Cursor
pub use Rattle.pl_rows.specs.Rows
pub use Rattle.pl_join.specs.Relation
pub use Rattle.pl_reduce.specs.Nodes
pub use Rattle.pl_reduce.specs.Walk
pub use Rattle.pl_reduce.specs.Reduced
-- what the functions inside the crate promise each other
pub mod Answers
pub mod Stages
pub mod Kept
pub mod Lending
