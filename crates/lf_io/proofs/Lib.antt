pub mod Parts
pub mod FaultLaws
