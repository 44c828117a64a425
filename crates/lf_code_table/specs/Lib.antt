-- The definitions and laws of the table of a code's words.
pub mod Table
pub mod Prefixes
pub mod Lone
pub mod Endings
