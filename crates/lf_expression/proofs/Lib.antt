pub mod Cutting
pub mod Times
pub mod Spaces
pub mod Kinded
pub mod Numbered
