-- The definitions and laws of codes.
pub mod Codes
pub mod Escapes
pub mod Case
pub mod Plain
pub mod Apache
pub mod Nginx
pub mod HaProxy
pub mod CodeTests
pub mod CodeLaws
pub mod Codings
