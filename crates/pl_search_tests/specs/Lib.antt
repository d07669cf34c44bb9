-- a task with a hopeless state
pub mod Twins
-- a task of marks, for width searches
pub mod Marks
