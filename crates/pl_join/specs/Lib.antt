-- what the public contracts rest on
pub mod Relation
pub mod Keyed
pub use Rattle.pl_rows.specs.Rows
-- what the functions inside the crate promise each other
pub mod Source
pub mod Lookup
pub mod Found
