-- The definitions and laws of how a text spells a format, item by item.
pub mod Numbers
pub mod Cuts
pub mod Pieces
pub mod Items
pub mod ItemLaws
pub mod ItemReaders
pub mod Spelling
pub mod Building
pub mod Runs
pub mod RunLaws
pub mod Texts
pub mod TextLaws
pub mod Enclosed
pub mod EnclosedLaws
