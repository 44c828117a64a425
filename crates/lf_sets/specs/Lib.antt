-- The definitions and laws of the points that are reached, with the ways back from them.
pub mod Reached
pub mod Forests
