-- The definitions of the lines of a stream, and of how far they are given.
pub mod Cut
pub mod Sorts
pub mod Held
pub mod Standing
pub mod Marks
