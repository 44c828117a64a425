-- The numbers of the limits.
pub mod Limits
pub use Rattle.lf_limits.specs.Limits
