-- for the crates above: fronts of the walk extend to the whole join
pub mod Walks
-- and the places of classes, the nodes at the steps of a walk, and its stops
pub mod Places
pub mod Stopping
-- filters that keep no member of a list, or all
pub mod Filters
-- for the functions of this crate
mod PlanLaws
mod Lists
mod Columns
mod Roots
mod Arrangements
mod Ordering
mod PassLemmas
mod Emptied
mod Options
mod Neighbours
mod Costs
mod Stores
mod Numbers
mod Reductions
mod Beginnings
mod Wholes
mod Fixations
mod Keyings
mod Origins
mod PlanNodes
mod EdgeSets
mod Laying
mod Endings
-- relations over the classes of their nodes
mod Overs
