-- what is printed
pub mod Texts
