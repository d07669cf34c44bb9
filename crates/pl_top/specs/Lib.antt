-- the contract of the top call: what words ask, what the answer is, and how a run ends
pub mod Request
pub mod Listing
pub mod Searching
pub mod Summary
pub mod Answer
pub mod Run
-- what a run of `plan` or of `make` says of its task
pub mod Planning
-- how many probes a run takes
pub mod Work
-- the laws that `laws` carries
pub mod Laws
-- what the functions inside the crate promise each other
pub mod Asked
pub mod Ended
pub mod Refusal
pub mod Reading
pub mod Writing
pub mod Starting
pub mod Reaching
pub mod Putting
