-- The definitions and laws of the domains of texts and words.
pub mod Texts
pub mod TextLaws
pub mod WordLists
pub mod WordLaws
