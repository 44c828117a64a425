pub mod Fields
pub mod Moments
