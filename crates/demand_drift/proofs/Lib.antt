-- The laws of this crate.
pub mod EvaluatedNear
pub mod Evaluates
pub mod OneDrift
pub mod TakenNear
