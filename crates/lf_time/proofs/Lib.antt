pub mod Utc
