-- parts of a list
mod Ranges
-- the answers of stages: that they are just the chains of rows, what they begin with, how long they are, and
-- their order
mod Chains
mod Fronts
mod Ascent
-- stages that follow one another
mod Following
-- the steps of a descent
mod Descent
-- where the answers past a tuple stand
mod Seeking
-- the classes of a join at their places
mod Places
-- the stages of a reduced join, and its answers
mod Links
-- what the functions of this crate promise each other
mod Stops
mod Laying
mod Positions
mod Starting
mod Parts
mod Narrowing
