pub mod Joins
pub mod Runs
pub mod Levels
pub mod Cutting
