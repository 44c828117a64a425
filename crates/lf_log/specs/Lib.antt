pub mod Ends
pub mod Generated
