-- The grammars that the tests read texts by.
pub mod Map
pub mod Narrowing
pub mod Numbers
pub mod Tiny
