-- what the public contracts rest on: the bytes and the tokens of a file, its forms, and what is wrong with it
pub mod Limits
pub mod Bytes
pub mod Comments
pub mod Tokens
pub mod Forms
pub mod Trees
pub mod Spans
pub mod TextFaults
pub mod Words
pub mod Lines
-- the laws that `laws` carries
pub mod Laws
-- what the functions inside the crate promise each other
pub mod Scan
pub mod Reading
