-- for the crates above: the order of the classes, how a relation more goes on with it, and what it holds
pub mod Meeting
mod CoreClasses
-- for the functions of this crate: the relations that are joined and those that are left, and which one is
-- next
pub mod SameJoin
pub mod NextPlace
