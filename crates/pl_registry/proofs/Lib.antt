-- for the functions of this crate and for searches
pub mod Lists
pub mod Turns
pub mod Entries
pub mod Plans
pub mod Shortest
mod PlanOrder
pub mod Least
mod OneLeast
-- how a registry keeps its entries
mod LinkLemmas
pub mod Prefixes
pub mod Agreement
pub mod Endings
pub mod OneEnding
mod Registering
pub mod SearchLaws
-- how a search grows, for its loop: by any rank, and by number
pub mod Growing
pub mod ByRank
pub mod ByNumber
pub mod Numbered
pub mod Holding
pub mod HoldingByRank
mod Choosing
mod Novelties
-- bounds on probes
pub mod Bounds
pub mod Running
mod RunEndings
mod ToldApart
