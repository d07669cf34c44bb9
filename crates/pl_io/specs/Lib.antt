-- what a shelf of files and a sink of bytes are, and what every call on them promises
pub mod Outside
-- what stands between a writer of many short texts and a sink
pub mod Blocks
-- what the shelf and the sink in memory show, with which their clauses say what each call does
pub mod Begun
pub mod MemShelf
pub mod MemSink
pub mod Numbered
-- what the shelf and the sinks over the operating system show
pub mod FileShelf
pub mod Streams
-- what a sink that takes everything shows
pub mod SureSink
-- what the functions inside the crate promise each other
pub mod Places
