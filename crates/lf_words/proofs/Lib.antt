pub mod NameLaws
pub mod NumberLaws
pub mod OptionLaws
pub mod CommandLaws
pub mod WordLaws
