pub mod FieldTexts
pub mod KeptMoments
