-- The definitions of the lists on which two machines meet, and of two machines side by side.
pub mod Meet
pub mod Both
pub mod BothLaws
