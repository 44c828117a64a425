pub mod Reads
pub mod Texts
pub mod Times
pub mod Steps
