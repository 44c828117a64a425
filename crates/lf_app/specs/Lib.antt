-- The definitions of commands, their outcomes, and what a run promises.
pub mod Run
pub mod Statuses
pub mod Sides
pub mod Commands
pub mod Outcome
pub mod Verdicts
pub mod Progress
pub mod Flush
pub mod Promise
