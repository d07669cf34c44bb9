-- texts that are written in several calls
pub mod Writing
