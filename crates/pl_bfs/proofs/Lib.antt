-- the turn of an entry
mod Within
-- bounds on probes
mod Bounds
-- the search as a whole
mod Whole
mod LeastFound
-- width search
mod Sifted
mod SiftedTrials
mod SiftedTurns
mod SiftedWhole
