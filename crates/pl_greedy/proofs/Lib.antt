-- the states that wait
mod Queueing
-- the turn of an entry
mod Within
-- bounds on probes
mod Bounds
-- the search as a whole
mod Whole
