pub mod Narrowing
pub mod Terms
pub mod Classes
pub mod Bounds
pub mod Effects
pub mod Narrowed
pub mod Fits
pub mod Said
