-- The definitions and laws of formats as Apache's LogFormat spells them.
pub mod Apache
pub mod Items
pub mod Directive
pub mod Table
pub mod Reading
pub mod Parts
pub mod Letters
pub mod FoundLaws
pub mod AgainLaws
pub mod FaultLaws
pub mod SlotLaws
pub mod Laws
