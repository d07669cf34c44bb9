-- what the claims on searches rest on
pub mod StateSpace
pub mod SearchRecord
pub mod Cut
pub mod Novelty
pub mod Ending
pub mod LeastPlan
pub mod Laws
-- what contracts see of a registry
pub mod Registered
pub mod Fresh
-- a search by number under way, and the registry beside it
pub mod Held
-- the same of a search by any rank
pub mod HeldByRank
-- what searches may probe
pub mod Probes
-- what the functions inside the crate promise each other
pub mod Links
