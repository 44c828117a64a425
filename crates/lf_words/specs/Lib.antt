-- The definitions of the words of command lines.
pub mod Command
pub mod Reading
