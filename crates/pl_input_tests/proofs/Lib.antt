-- the task of lamps is well-formed
mod LampLemmas
