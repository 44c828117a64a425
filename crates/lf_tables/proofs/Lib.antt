pub mod Reach
pub mod WayLaws
pub mod MoverLaws
pub mod NumberLaws
pub mod CellLaws
pub mod FoundLaws
pub mod WalkLaws
pub mod TableLaws
