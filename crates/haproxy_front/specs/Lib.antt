-- The definitions and laws of formats as HAProxy's log-format spells them.
pub mod HaProxy
pub mod Items
pub mod Flags
pub mod Names
pub mod Table
pub mod Letters
pub mod Slots
pub mod Reading
pub mod Parts
pub mod NameLaws
pub mod SlotLaws
pub mod FoundLaws
pub mod AgainLaws
pub mod FaultLaws
pub mod Laws
