-- test tasks are well-formed
pub mod WellFormed
-- the atoms of cases, for this crate
mod Cases
