pub mod Turning
pub mod Translations
