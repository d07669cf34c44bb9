-- for the crates above: when two lists of rows are one
pub mod Canonical
-- for the functions of this crate
pub mod Places
pub mod Directory
pub mod Keys
pub mod Narrowing
pub mod PairRanges
pub mod Sorting
pub mod Values
