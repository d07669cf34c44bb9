-- a task of lamps and switches
pub mod Lamps
