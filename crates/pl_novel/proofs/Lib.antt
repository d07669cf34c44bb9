-- members of lists to which others are added, and lists of pairs
pub mod Lists
-- the loops
mod Pairings
mod Numberings
mod StateKeys
-- sets of atoms by their keys
mod Pairs
mod StateSets
-- the noted sets
mod NotedSets
mod Growing
mod NotingLemmas
-- the states seen
mod Seeing
-- a step's successor
mod StepSets
