-- The small machines of the tests, and that they are lawful.
pub mod Small
pub mod SmallLaws
