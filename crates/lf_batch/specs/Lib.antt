-- The definitions of the lines of a batch that jobs share.
pub mod Within
pub mod Verdicts
