-- what the public contracts rest on
pub mod AtomSets
pub mod Noting
pub mod Laws
-- what the functions inside the crate promise each other
pub mod Keys
pub mod Feeding
