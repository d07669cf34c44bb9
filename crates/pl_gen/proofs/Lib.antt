-- for the crates above: the applicable steps of a schema as rows
pub mod SchemaRows
pub mod Above
-- for searches: the steps that a walk lends out
pub mod Lent
-- filters of lists
mod Blocks
-- the tables that a query is asked of, and those that it is reduced to
mod Asking
mod Tables
-- the turn of a schema
mod Turning
-- the steps of a walk one by one
mod Stepping
-- how many probes a walk takes
mod Counting
mod Reading
mod Giving
mod Seeking
-- how many probes the preparation of a state takes
mod Sizes
mod Basing
