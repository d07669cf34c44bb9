-- what the public contracts rest on
pub mod Nodes
pub mod Walk
pub mod Plan
pub mod Reduced
pub mod Layout
pub mod Recipes
pub use Rattle.pl_join.specs.Relation
pub use Rattle.pl_hyper.specs.Ears
pub use Rattle.pl_hyper.specs.ClassOrder
-- what the functions inside the crate promise each other
pub mod PlanNodes
pub mod Passes
pub mod Lent
pub mod Arranged
pub mod Kept
pub mod Runs
pub mod Handed
pub mod Fixing
