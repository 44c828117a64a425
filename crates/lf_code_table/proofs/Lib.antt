pub mod TableSizes
pub mod TableSteps
pub mod EndingLaws
pub mod LoneLaws
