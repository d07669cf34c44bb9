-- what every claim of the planner rests on
pub mod Types
pub mod Atoms
pub mod States
pub mod Goal
pub mod Plans
-- what every task keeps
pub mod WellFormed
-- what contracts see of a step, and the laws that public functions carry
pub mod Instance
pub mod Laws
-- what the functions inside the crate promise each other
pub mod Marking
