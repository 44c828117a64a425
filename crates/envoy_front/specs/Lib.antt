-- The definitions and laws of formats as Envoy's access log spells them.
pub mod Envoy
pub mod Items
pub mod Command
pub mod Length
pub mod Table
pub mod Reading
pub mod Parts
pub mod FoundLaws
pub mod AgainLaws
pub mod FaultLaws
pub mod SlotLaws
pub mod Laws
