-- The definitions and laws of classes, domains, marked machines and runs.
pub mod Adds
pub mod Class
pub mod Classes
pub mod Domain
pub mod Marked
pub mod Runs
pub mod RunLaws
pub mod Written
pub mod Choices
pub mod AcceptsLaws
pub mod WrittenLaws
