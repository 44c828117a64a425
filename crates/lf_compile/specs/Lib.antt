-- The definitions of formats that have a reader, and of the causes where one has none.
pub mod Confused
pub mod Notes
pub mod Accepted
pub mod Tabled
