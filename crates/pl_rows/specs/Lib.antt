-- what the public contracts rest on
pub mod Rows
-- what the functions inside the crate promise each other
pub mod Layout
