-- what the contracts of the plan of ears rest on
pub mod Edges
pub mod Ears
pub mod JoinTree
pub mod ClassOrder
-- what the functions inside the crate promise each other
pub mod Search
pub mod Holders
