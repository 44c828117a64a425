pub mod DigitTexts
