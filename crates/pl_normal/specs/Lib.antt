-- what the public contracts rest on
pub mod Classes
pub mod Slots
pub mod Edges
pub mod Guards
pub mod Filters
pub mod EarRemoval
pub mod ParameterOrder
pub mod NormalForm
pub mod StepOrder
pub mod Steps
pub mod Query
pub mod Measures
pub mod Laws
pub mod Tables
pub mod StateTables
pub mod Queries
pub mod Recipes
-- what the functions inside the crate promise each other
pub mod Scope
pub mod Asked
pub mod Kinds
pub mod NormalTasks
