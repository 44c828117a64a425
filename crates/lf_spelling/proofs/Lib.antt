pub mod Joining
pub mod Steps
pub mod OneAnswer
pub mod KeepsLaws
