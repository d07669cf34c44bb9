-- what the public contracts rest on
pub mod Layout
pub mod StateOf
pub mod Tables
pub mod Statics
pub mod Decided
pub mod Laws
-- what the functions inside the crate promise each other
pub mod Reading
pub mod Changing
pub mod Feeding
pub mod Comparing
