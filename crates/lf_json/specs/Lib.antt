-- The definitions of records as JSON, written and read.
pub mod Text
pub mod Reading
