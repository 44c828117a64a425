-- The definitions of flagged pairs, their distances, and the search for them.
pub mod ByteSet
pub mod Distance
pub mod Pages
pub mod Cells
pub mod Arcs
pub mod Level
pub mod Kept
pub mod Walk
