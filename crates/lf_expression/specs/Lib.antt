pub mod Exprs
pub mod Values
pub mod Kinds
pub mod Answers
