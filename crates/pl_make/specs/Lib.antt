-- the texts that are made
pub mod Texts
