pub mod Advance
pub mod Reading
pub mod Views
