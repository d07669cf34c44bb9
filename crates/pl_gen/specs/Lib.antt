-- what the public contracts rest on
pub mod Walks
pub mod SchemaSteps
pub mod Entries
pub mod Views
pub use Rattle.pl_normal.specs.Steps
pub use Rattle.pl_normal.specs.StepOrder
pub use Rattle.pl_state.specs.StateOf
-- what the functions inside the crate promise each other
pub mod Queries
pub mod Kept
pub mod Measures
pub mod Reads
pub mod Turns
pub mod Lending
