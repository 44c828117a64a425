-- The machines of the tests, and that they are lawful.
pub mod Nth
pub mod NthLaws
