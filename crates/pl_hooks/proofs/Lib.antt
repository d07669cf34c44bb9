-- a stuck goal literal stays stuck
pub mod DeadEnds
-- which effects could give an atom
pub mod Fixings
-- which states are hopeless
pub mod StuckLemmas
-- the test of hopeless states
pub mod Deciding
-- closures that are fit for a pruner
pub mod Cuts
-- for searches: the initial state, and one step of an expanded state
pub mod Firsts
pub mod Trials
