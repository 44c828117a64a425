pub mod RecordLaws
pub mod NoteLaws
pub mod ConfusionLaws
pub mod Least
pub mod OneCause
pub mod SomeAnswer
pub mod Lines
pub mod SetLaws
