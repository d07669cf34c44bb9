-- what a verdict says, and that there is one at most
pub mod Verdict
pub mod Laws
-- what the functions inside the crate promise each other
pub mod Judging
