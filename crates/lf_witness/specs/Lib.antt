-- The definitions of least lines and least runs.
pub mod Runs
pub mod Sets
pub mod Open
pub mod Branch
pub mod Shared
pub mod Heads
pub mod Least
pub mod WrittenLeast
