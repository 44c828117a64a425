pub mod Draws
pub mod Least
pub mod Drawn
pub mod Compared
pub mod First
pub mod Letters
