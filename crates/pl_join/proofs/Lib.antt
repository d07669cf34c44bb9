-- for the crates above: between a relation's rows and its assignments
pub mod Assignments
-- for the functions of this crate
pub mod Members
pub mod Loops
pub mod Operations
pub mod Gathering
pub mod Joining
pub mod Selecting
mod Copying
pub mod Repeats
mod Founds
mod Empties
mod Keys
