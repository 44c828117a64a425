pub mod Reads
pub mod Plain
pub mod Decodes
pub mod Rows
