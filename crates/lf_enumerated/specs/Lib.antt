-- The definitions that the tests of small formats need.
pub mod Leading
