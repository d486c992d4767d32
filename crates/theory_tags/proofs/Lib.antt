-- The laws of this crate.
pub mod LooplessRows
pub mod PlainGraphs
