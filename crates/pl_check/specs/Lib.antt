-- what the public contracts rest on: the words and the parts of a file, what both files declare, the faults
-- of each kind of form, the first fault of two files, the task that they state, and the lines of a plan
pub mod Words
pub mod Elements
pub mod FaultLists
pub mod TypedLists
pub mod Predicates
pub mod Known
pub mod Terms
pub mod Conditions
pub mod Literals
pub mod Actions
pub mod Sections
pub mod Files
pub mod FirstFault
pub mod Stated
pub mod PlanLines
-- the laws that `laws` carries
pub mod Laws
-- what the functions inside the crate promise each other
pub mod Reading
pub mod Opening
pub mod Gathering
pub mod Made
pub mod Checking
