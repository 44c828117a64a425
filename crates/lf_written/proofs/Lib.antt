pub mod CellLaws
pub mod TableLaws
