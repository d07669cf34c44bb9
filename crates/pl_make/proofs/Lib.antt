mod Numbers
-- for the crates above: how long the texts are at most
pub mod Lengths
