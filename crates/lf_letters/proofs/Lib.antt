pub mod Marking
pub mod PlainTexts
pub mod WordByWord
pub mod Lanes16
