pub mod Places
pub mod ReadBack
pub mod StdDecimals
pub mod PlainDigits
pub mod Signs
pub mod Powers
