-- for the crates above: numbers among names, and first appearances
pub mod Numbers
pub mod Firsts
-- for the functions of this crate
pub mod Order
pub mod Looking
pub mod Parts
