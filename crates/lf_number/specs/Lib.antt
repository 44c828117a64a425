-- The definitions and laws of the domains of whole numbers.
pub mod Numbers
pub mod Machines
pub mod Digits
pub mod Sides
pub mod Free
pub mod Range
pub mod ReadingLaws
pub mod NumberLaws
pub mod DashLaws
pub mod Mixed
pub mod ThousandthsLaws
pub mod PaddedLaws
pub mod Radix
pub mod RadixLaws
