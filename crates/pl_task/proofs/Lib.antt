-- states, execution, the tests of types and steps, and the size of a step: the crates above cite these lemmas
pub mod StateLemmas
pub mod TypeLemmas
pub mod StepLemmas
-- the walk that marks types
mod MarkingLemmas
