pub mod Cuts
pub mod LetterTexts
pub mod DigitNumbers
pub mod ExactTexts
pub mod TimeTexts
pub mod Presence
pub mod Joining
