-- bytes that are read or written a part at a time
pub mod Parts
-- the first file of a name, by its place
pub mod Places
-- calls that are interrupted, and made again
pub mod Kept
-- for the crates above
pub mod Telling
-- bytes that are held back and sent on in blocks
pub mod Gathering
