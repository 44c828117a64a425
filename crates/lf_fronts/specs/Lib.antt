-- The definitions of formats as the front that is named spells them.
pub mod Fronts
pub mod Keeps
