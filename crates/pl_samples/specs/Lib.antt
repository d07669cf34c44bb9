-- the task of places, as contracts see it
pub mod Places
