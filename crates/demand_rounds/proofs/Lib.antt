-- The laws of this crate.
pub mod Told
pub mod Traced
pub mod Waiting
pub mod WorkInTurn
pub mod OneRun
