pub mod Reached
pub mod Classes
pub mod Ways
pub mod Tabled
pub mod Found
pub mod Movers
