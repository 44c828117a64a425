-- The definitions and laws of formats, kinds and slots.
pub mod Shape
pub mod Kinds
pub mod Slots
pub mod Lines
pub mod Absence
pub mod Keeps
pub mod CommonKinds
pub mod Size
pub mod HeldLaws
pub mod PlainTextLaws
pub mod TimeTextLaws
pub mod TimeValueLaws
pub mod KeptSlots
pub mod TakenLaws
pub mod SomeValueLaws
pub mod KeptSlotLaws
pub mod Two
