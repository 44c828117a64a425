-- The definitions of sources, sinks and their faults.
pub mod Faults
pub mod Moves
pub mod Steps
pub mod SureText
pub mod MemorySource
pub mod MemorySink
pub mod SystemStreams
