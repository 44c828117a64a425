-- The definitions and laws of the layouts of times, and of instants.
pub mod TimeLayouts
pub mod Instants
pub mod TimeLaws
