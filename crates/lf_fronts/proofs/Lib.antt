pub mod FrontLaws
pub mod ByteLaws
pub mod ItemBytes
pub mod KeepLaws
