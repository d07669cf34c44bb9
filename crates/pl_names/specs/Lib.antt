-- what the public contracts rest on
pub mod Names
-- what the functions inside the crate promise each other
pub mod Entries
