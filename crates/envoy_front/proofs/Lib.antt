pub mod Ends
pub mod Cuts
pub mod Values
pub mod SizedTexts
