-- The definitions and laws of formats as nginx's log_format spells them.
pub mod Nginx
pub mod Table
pub mod Variables
pub mod Items
pub mod Reading
pub mod SlotLaws
pub mod FoundLaws
pub mod AgainLaws
pub mod Laws
pub mod Bytes
pub mod Syntax
pub mod Strings
pub mod Escapes
pub mod Passes
pub mod Parts
pub mod Whole
