-- how the words of a layout are read back, and which state they stand for
pub mod PartWords
pub mod StatesOfWords
pub mod Readings
-- how they are made
pub mod Buildings
pub mod Packings
-- how a step changes them
pub mod Orders
pub mod Namings
pub mod Mergings
pub mod Applyings
-- the tables of a state
pub mod Tablings
-- what a state feeds a hasher
pub mod Feedings
-- words compared group by group
pub mod Comparings
-- the tables of the static atoms
pub mod StaticTables
-- the goal with its static part decided
pub mod Decidings
