-- The definitions and laws of grammars, and of the place where a text leaves one.
pub mod Cause
pub mod CutLaws
pub mod Cuts
pub mod FirstFaultLaws
pub mod Grammar
pub mod Leaf
pub mod LeafLaws
pub mod PlaceLaws
pub mod Places
pub mod Shape
pub mod ThreadLaws
pub mod Threads
