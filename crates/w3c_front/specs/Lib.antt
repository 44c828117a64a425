-- The definitions and laws of formats as lists of fields.
pub mod W3c
pub mod Table
pub mod Identifier
pub mod Items
pub mod Reading
pub mod SlotLaws
pub mod FrontLaws
pub mod Laws
pub mod PlaceLaws
