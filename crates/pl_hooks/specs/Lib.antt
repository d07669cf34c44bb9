-- what the closures of hooks keep
pub mod Sound
-- what a search may do by what its pruner may answer
pub mod Asked
-- what trying one step answers and what it leaves of the registry
pub mod Trying
pub mod Laws
pub use Rattle.pl_registry.specs.Cut
-- the test of hopeless states
pub mod Hopeless
-- what is decided once a task
pub mod Fixed
